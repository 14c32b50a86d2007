use Rattle.std.proofs.Common.{◌≡◌, sym, subst}
use Rattle.std.specs.Prelude.{filter, unwrap_or, Result, Ok, Err, IfOk}
use Rattle.c_grammar.specs.Vocabulary.{is_type_word}
use Rattle.c_types.specs.declared.kind.TypeId.{TypeId}
use Rattle.c_types.specs.Tables.{IsThere}
use Rattle.c_typing.specs.Types.{CType, void}
use Rattle.c_typing.specs.Declarators.{said_type}
use Rattle.c_typing.specs.Rules.{bad_type_words}
use Rattle.c_type_ids.specs.Ids.{Known, Names}
use Rattle.c_type_ids.proofs.MeasureLaws.{names_there}
use Rattle.c_answers.specs.Answers.{Settles}
use Rattle.c_declared_types.specs.Words.{AreGiven}
use Rattle.c_declared_types.proofs.WordLaws.{said_many, no_type}
use Rattle.c_declared_types.proofs.specs_words.type_of_specs.Goals as goal

pub returns-in-None-clause-is : goal.returns-in-None-clause-is
returns-in-None-clause-is c = λ texts ts words given.
    subst (λ xs. Settles (λ id. Names c.type_of_words.new.table id (unwrap_or (said_type (filter is_type_word texts) xs) void)) c.type_of_words.result (bad_type_words (said_type (filter is_type_word texts) xs) c.args.node))
    (sym (subst (λ g. AreGiven c.args.table.now g ts) c.in-None.is given)) (c.type_of_words.ensures.is (filter is_type_word texts) words.types)

pub returns-in-One-clause-is : goal.returns-in-One-clause-is
returns-in-One-clause-is c = λ texts ts words given.
    let (t, e, named) = subst (λ g. AreGiven c.args.table.now g ts) c.in-One.is given in
    subst (λ xs. Settles (λ id. Names c.args.table.now id (unwrap_or (said_type (filter is_type_word texts) xs) void)) c.type_alone.result (bad_type_words (said_type (filter is_type_word texts) xs) c.args.node))
    (sym e) (c.type_alone.ensures.is c.args.table.now (filter is_type_word texts) t words.types named)

there_if : {E : Type 0} → (k : Known) (id : TypeId) (t : CType) (r : Result TypeId E) → Names k id t → IfOk r (λ made. made ≡ id) → IfOk r (IsThere k.table)
there_if k id t (Ok made) named e = subst (IsThere k.table) (sym e) (names_there k id t named)
there_if k id t (Err e) named h = tt

pub returns-in-One-clause-there : goal.returns-in-One-clause-there
returns-in-One-clause-there c =
    let (t, e, named) = subst (λ g. AreGiven c.args.table.now g c.requires.0) c.in-One.is c.requires.1 in
    there_if c.args.table.now c.in-One.id t c.type_alone.result named c.type_alone.ensures.same

pub returns-in-Many-clause-is : goal.returns-in-Many-clause-is
returns-in-Many-clause-is c = λ texts ts words given.
    no_type (said_type (filter is_type_word texts) ts) c.args.node (said_many (filter is_type_word texts) ts (subst (λ g. AreGiven c.args.table.now g ts) c.in-Many.is given))
