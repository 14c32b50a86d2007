-- What `break` and `continue` mean.
use Rattle.std.proofs.Common.{◌≡◌, ℕ, Bool, true, false, List, [], ◌∷◌, refl, sym, ap, ◌∙◌, subst}
use Rattle.std.specs.Option.{is_some}
use Rattle.std.specs.Prelude.{Err}
use Rattle.c_syntax.specs.declared.kind.SynKind.TheVariants as kind
use Rattle.c_syntax.specs.declared.syntax.SynNode.{SynNode}
use Rattle.c_types.specs.declared.tree.Stmt.{Stmt}
use Rattle.c_types.specs.Forms.{break, continue}
use Rattle.c_typing.specs.Places.{Node, around}
use Rattle.c_typing.specs.Judgements.{Judgement, means, performs, verdict}
use Rattle.c_typing.specs.Rules.{outside_a_loop}
use Rattle.c_typing.specs.Statements.{break_statement, continue_statement, does}
use Rattle.c_typing.specs.Typing.{judged_by}
use Rattle.c_names.specs.Denoted.{places_in}
use Rattle.c_nodes.specs.declared.around.Kinds.{Kinds}
use Rattle.c_nodes.specs.declared.around.Kinds.TheVariants as kinds
use Rattle.c_nodes.specs.Around.{accepts}
use Rattle.c_nodes.specs.Parents.{nodes_in}
use Rattle.c_type_ids.specs.Ids.{Known}
use Rattle.c_answers.specs.declared.refusal.Refusal.TheVariants as refusal
use Rattle.c_meanings.specs.Meanings.{IsAnswered, judged_at, judged_to, node_in}

-- a jump, where it stands inside of what it leaves or goes on with, or not
abbrev jump : Bool → ℕ → Stmt → Judgement
jump inside i s = verdict (outside_a_loop inside i) (does s)

abbrev stands_inside : Kinds → List SynNode → ℕ → Bool
stands_inside test table n = is_some (around (λ (m : Node). accepts test m.label.kind) (nodes_in table) n)

module _ (table : List SynNode) (n : ℕ) (own : (node_in table n).id ≡ n) where
  break_is : (node_in table n).label.kind ≡ kind.Break → judged_at table n ≡ jump (stands_inside kinds.LoopOrSwitch table n) n break
  unfolding judged_at judged_by break_statement places_in nodes_in
  break_is is =
      ap (judged_by (places_in table) (judged_to table n) (node_in table n)) is
      ∙ ap (λ i. jump (stands_inside kinds.LoopOrSwitch table i) i break) own

  continue_is : (node_in table n).label.kind ≡ kind.Continue → judged_at table n ≡ jump (stands_inside kinds.Loop table n) n continue
  unfolding judged_at judged_by continue_statement places_in nodes_in
  continue_is is =
      ap (judged_by (places_in table) (judged_to table n) (node_in table n)) is
      ∙ ap (λ i. jump (stands_inside kinds.Loop table i) i continue) own

  pub breaks : (node_in table n).label.kind ≡ kind.Break → (b : Bool) → b ≡ stands_inside kinds.LoopOrSwitch table n → b ≡ true → judged_at table n ≡ means (performs (break ∷ []))
  breaks is b e f = break_is is ∙ ap (λ b. jump b n break) (sym e ∙ f)

  pub goes_on : (node_in table n).label.kind ≡ kind.Continue → (b : Bool) → b ≡ stands_inside kinds.Loop table n → b ≡ true → judged_at table n ≡ means (performs (continue ∷ []))
  goes_on is b e f = continue_is is ∙ ap (λ b. jump b n continue) (sym e ∙ f)

  refused : (k : Known) (s : Stmt) (b : Bool) → b ≡ false → judged_at table n ≡ jump b n s → IsAnswered k (Err (refusal.Broken 19 n)) (judged_at table n)
  refused k s b f is = subst (IsAnswered k (Err (refusal.Broken 19 n))) (sym (is ∙ ap (λ b. jump b n s) f)) ([], refl)

  pub breaks_nothing : (node_in table n).label.kind ≡ kind.Break → (k : Known) (b : Bool) → b ≡ stands_inside kinds.LoopOrSwitch table n → b ≡ false → IsAnswered k (Err (refusal.Broken 19 n)) (judged_at table n)
  breaks_nothing is k b e f = refused k break b f (break_is is ∙ ap (λ b. jump b n break) (sym e))

  pub goes_nowhere : (node_in table n).label.kind ≡ kind.Continue → (k : Known) (b : Bool) → b ≡ stands_inside kinds.Loop table n → b ≡ false → IsAnswered k (Err (refusal.Broken 19 n)) (judged_at table n)
  goes_nowhere is k b e f = refused k continue b f (continue_is is ∙ ap (λ b. jump b n continue) (sym e))
