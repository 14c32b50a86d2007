-- A typed unit is well made.
use Rattle.std.proofs.Common.{◌≡◌, ℕ, List, [], subst}
use Rattle.c_lexer.specs.declared.token.Token.{Token}
use Rattle.c_lexer.specs.Tokens.{HasTokens}
use Rattle.c_syntax.specs.Trees.{Tree}
use Rattle.c_grammar.specs.Derivation.{IsTreeOf}
use Rattle.c_types.specs.declared.tree.Unit.{Unit as Whole}
use Rattle.c_types.specs.WellMade.{IsWellMade}
use Rattle.c_typing.specs.Names.{places}
use Rattle.c_typing.specs.Typing.{judgements_at, faults, unit_of, IsTyped}
use Rattle.c_typing.proofs.ProgressMeant.{meant}
use Rattle.c_typing.proofs.MadeMeant.{meaningful}
use Rattle.c_typing.proofs.MadeData as placed
use Rattle.c_typing.proofs.MadeDefined.{clean, few_parameters, parameters_are_locals}
use Rattle.c_typing.proofs.MadeSizes.{alignments}
use Rattle.c_typing.proofs.MadeJumps.{jumps_end}
use Rattle.c_typing.proofs.MadeLabels.{labels_differ, one_other}
use Rattle.c_typing.proofs.MadeTexts.{no_getchar, no_putchar}
use Rattle.c_typing.proofs.MadeOnce.{distinct}
use Rattle.c_typing.proofs.MadeMain.{main}
use Rattle.c_typing.proofs.MadeNamed.{objects_named}
use Rattle.c_typing.proofs.MadeLocals.{locals_named, locals_unset}
use Rattle.c_typing.proofs.MadeAddresses.{addresses}
use Rattle.c_typing.proofs.MadeCalled.{functions_called}
use Rattle.c_typing.proofs.MadeCopied.{structs_copied}
use Rattle.c_typing.proofs.MadeCellsApart.{cells_apart}
use Rattle.c_typing.proofs.MadeCellsInside.{cells_inside}
use Rattle.c_typing.proofs.MadeWordsNames.{identifiers}

whole_made : (bytes : List ℕ) (tokens : List Token) (t : Tree) → HasTokens bytes tokens → IsTreeOf tokens t → faults t ≡ [] → IsWellMade (unit_of t)
unfolding unit_of
whole_made bytes tokens t lexed derived quiet =
    let ok = clean t quiet in
    let meanings = meaningful tokens t derived (λ n m at. meant tokens t n m derived quiet at) in
    record {
      objects_named = objects_named tokens t derived ok meanings.declarators;
      locals_named = locals_named tokens t derived;
      locals_unset = locals_unset tokens t derived;
      functions_called = functions_called tokens t derived ok meanings.functions meanings.declarators;
      few_parameters = few_parameters tokens t derived ok;
      parameters_are_locals = parameters_are_locals t;
      identifiers = identifiers bytes tokens t lexed derived;
      distinct = distinct tokens t derived;
      no_getchar = no_getchar tokens t derived;
      no_putchar = no_putchar tokens t derived;
      main = main tokens t derived ok meanings.functions;
      jumps_end = jumps_end tokens t derived;
      alignments = alignments (places t);
      cells_inside = cells_inside tokens t derived quiet;
      cells_apart = cells_apart tokens t derived quiet;
      addresses = addresses tokens t derived ok meanings.declarators;
      data_fits = placed.data_fits (places t) (judgements_at (places t)) ok.data_clean;
      structs_copied = structs_copied tokens t derived quiet;
      labels_differ = labels_differ tokens t derived;
      one_other = one_other tokens t derived;
    }

pub typed_made : (bytes : List ℕ) (tokens : List Token) (t : Tree) (u : Whole) → HasTokens bytes tokens → IsTreeOf tokens t → IsTyped t u → IsWellMade u
typed_made bytes tokens t u lexed derived typed = subst IsWellMade typed.unit (whole_made bytes tokens t lexed derived typed.keeps)
