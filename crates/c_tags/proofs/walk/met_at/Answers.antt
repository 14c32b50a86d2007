use Rattle.std.proofs.Common.{◌≡◌, ◌∙◌, ◌&&◌, ◌||◌, Bool, true, false, ap, ap₂, sym}
use Rattle.std.specs.Prelude.{not}
use Rattle.c_typing.specs.Places.{Scope, has_kid, node_at}
use Rattle.c_typing.specs.Names.{is_lone, tag_after}
use Rattle.c_nodes.specs.Parents.{nodes_in}
use Rattle.c_tags.specs.Chains.{met_of}
use Rattle.c_tags.proofs.walk.met_at.Goals as goal
use Rattle.c_tags.proofs.walk.met_at.Goals.{then-has_kid, else-has_kid+then-not-is_enum, else-has_kid+else-not-is_enum}

or_so : (a b c r : Bool) → a ≡ true → r ≡ true → r ≡ a || (not b && c)
or_so a b c r e f = f ∙ sym (ap (λ x. x || (not b && c)) e)

or_lone : (a b c r : Bool) → a ≡ false → b ≡ false → r ≡ c → r ≡ a || (not b && c)
or_lone a b c r e f g = g ∙ sym (ap (λ x. x || (not b && c)) e ∙ ap (λ x. not x && c) f)

or_none : (a b c r : Bool) → a ≡ false → b ≡ true → r ≡ false → r ≡ a || (not b && c)
or_none a b c r e f g = g ∙ sym (ap (λ x. x || (not b && c)) e ∙ ap (λ x. not x && c) f)

pub returns : goal.returns
returns c =
    λ e seen.
    let s = nodes_in c.args.nodes.now in
    let n = c.args.number in
    let m = node_at s n in
    let declares : c.if-has_kid.declares ≡ has_kid m 0 || (not c.args.is_enum && is_lone s m) = elim c.if-has_kid.branch [
      | then-has_kid w ↦ or_so (has_kid m 0) c.args.is_enum (is_lone s m) c.if-has_kid.declares (sym c.has_kid.ensures ∙ w.if-has_kid.true) (w.declares-is ∙ w.if-has_kid.true)
      | else-has_kid+then-not-is_enum w ↦ or_lone (has_kid m 0) c.args.is_enum (is_lone s m) c.if-has_kid.declares (sym c.has_kid.ensures ∙ w.if-has_kid.false) w.if-not-is_enum.true (w.declares-is ∙ w.is_lone.ensures)
      | else-has_kid+else-not-is_enum w ↦ or_none (has_kid m 0) c.args.is_enum (is_lone s m) c.if-has_kid.declares (sym c.has_kid.ensures ∙ w.if-has_kid.false) w.if-not-is_enum.false (w.declares-is ∙ ap not w.if-not-is_enum.false)
    ] in
    c.met.ensures m e c.requires.numbered (c.innermost.ensures ∙ seen)
    ∙ ap₂ (λ (scope : Scope) (d : Bool). met_of (tag_after m c.args.is_enum scope d e)) c.scope.ensures declares
