-- Trees that the grammar derives of no text: a name that is a typedef name here alone, and a word that is none.
use Rattle.std.proofs.Common.{◌≡◌, ℕ, List, [], ◌∷◌, refl}
use Rattle.std.specs.Prelude.{codes}
use Rattle.c_syntax.specs.declared.kind.SynKind.TheVariants as kind
use Rattle.c_syntax.specs.Trees.{Tree, none, one, two, three, text_node, plain_node}
use Rattle.c_typing.specs.Judgements.{rule}
use Rattle.c_typing.proofs.Texts.{faults_of}

word : List ℕ → Tree
word text = text_node kind.Word text 0 none

-- `int main(void){return NAME;}`
main_returning : List ℕ → Tree
main_returning name =
    plain_node kind.Function 0 (three (plain_node kind.Specs 0 (one (word (codes "int")))) (plain_node kind.Takes 0 (one (text_node kind.Ident (codes "main") 0 none)))
    (plain_node kind.Block 0 (one (plain_node kind.Return 0 (one (text_node kind.Var name 0 none))))))

-- `typedef int t;`, and then `t` as a value
typedef_as_value : Tree
typedef_as_value =
    plain_node kind.Unit 0 (two (plain_node kind.Declaration 0 (two (plain_node kind.Specs 0 (two (word (codes "typedef")) (word (codes "int"))))
    (plain_node kind.InitDecl 0 (one (text_node kind.Ident (codes "t") 0 none))))) (main_returning (codes "t")))

breaks_4 : faults_of typedef_as_value ≡ rule 4 10 ∷ []
unfolding faults_of word main_returning typedef_as_value
breaks_4 = refl

-- `extern x y;`, where no typedef name is in scope, and then a name that is not declared
no_typedef : Tree
no_typedef =
    plain_node kind.Unit 0 (two (plain_node kind.Declaration 0 (two (plain_node kind.Specs 0 (two (word (codes "extern")) (word (codes "x"))))
    (plain_node kind.InitDecl 0 (one (text_node kind.Ident (codes "y") 0 none))))) (main_returning (codes "t")))

breaks_1 : faults_of no_typedef ≡ rule 1 1 ∷ rule 4 10 ∷ []
unfolding faults_of word main_returning no_typedef
breaks_1 = refl
