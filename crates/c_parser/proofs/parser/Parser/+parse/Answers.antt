-- The cycle of the parser: what each call gives.
use Rattle.std.proofs.Common.{rules, [], suc, ◌≡◌, ◌-◌, codes, refl, sym, ap, ap₂, ◌∙◌, ◌∷◌, arith, length, ◌<◌, ◌≢◌, ℕ, List, Ok, map, true, false, not, ◌&&◌, ◌||◌, subst}
use Rattle.c_syntax.specs.Trees.{height, forest_of, plain_node, text_node, one, two, ◌then◌, none}
use Rattle.c_grammar.specs.Scopes.{after, Names, add, after_parameter, entry, parameter_entries, parameters_of, entries_behind, is_bare_name, is_typedef_name}
use Rattle.c_grammar.specs.Answers.{found}
use Rattle.c_grammar.specs.Vocabulary.{Place, mark, is_identifier, is_type_word, is_storage_word}
use Rattle.c_lexer.specs.Marks.{mark_text}
use Rattle.c_lexer.specs.declared.token.Punct.TheVariants.{LeftParenthesis, RightParenthesis, RightBracket, LeftBracket, Dot, Arrow, PlusPlus, MinusMinus, RightBrace, Semicolon}
use Rattle.c_parser.specs.Steps.{size_of_operand, size_in_at, body_of, array_of, suffixes_at}
use Rattle.c_grammar.specs.Reading.{goal_in, rows_in, Goal, Rows, below, behind_one, commas, suffixes, assignment_in, is_unary_by, behind_const}
use Rattle.c_parser.specs.Gives.{itself, itself_high, nothing_more, behind_all, no_more, Stops, SaysSpecs, SaysSpecifiers, SaysEnumerator, SaysDeclarator, SaysSuffixed}
use Rattle.c_parser.proofs.Stopping.{gives_stop, gives_row_stop, stops_same, barred, whole_barred, whole_entered, chosen, not_chosen, stops_then, stops_before, found_before, found_then, entered, part_stops, part_found, row_stops, row_found, passed, balked, balked_name}
use Rattle.c_syntax.specs.Tables.{stack_of}
use Rattle.c_parser.proofs.Tokens.{still_shorter, shorter_behind, some_shorter, some_token, some_mark, placed_mark, placed_word, placed_string, behind_one_shorter}
use Rattle.std.specs.Prelude.{⊤, drop}
use Rattle.c_parts.proofs.NameLaws.{add_nothing, after_none, after_node, after_one, after_two, after_row}
use Rattle.c_parser.proofs.CommaRows.{listed_first_stops, listing_first, listing_stops, listing_next, listing_smaller, listing_end, follows_all, braces_first_stops}
use Rattle.c_parser.proofs.Arguments.{arguments_listed, no_arguments}
use Rattle.c_parser.proofs.Chains.{chain_stops, chain_longer, chain_end}
use Rattle.c_parser.proofs.Links.{commas_split, commas_end, expression_first, suffixes_split, suffixes_end, postfix_first}
use Rattle.c_parser.proofs.Made.{one_made, two_made, three_made, first_made, keeps_same, lower_fits, none_read, read_on, read_from, gives_same, made, row_made, keeps_then, pushed_on, pushed_leaf, trees_on}
use Rattle.c_parser.proofs.ExpressionLaws.{comma_link, assigned_link, operand_link, link_deep, link_stops, link_found, assignment_stops, assignment_behind, conditional_stops, conditional_behind, expression_stops, postfix_stops, not_assigned, no_target, no_choice, choice_deep, choice_first_stops, choice_open, choice_last_stops, choice_found}
use Rattle.c_parser.proofs.PartLaws.{operand_stops, operand_found, closed_open, closed_found, closed_row_stops, closed_row_open, closed_row_found, gives_wider, gives_from}
use Rattle.c_parser.proofs.CastLaws.{no_cast, cast_named, cast_unnamed, cast_first_stops, cast_open, cast_last_stops, cast_found, size_open, size_deep, size_named, size_unnamed, unary_nothing, unary_increment, unary_decrement, unary_operated, unary_size, unary_word, unary_other, marked_deep, marked_stops, marked_found}
use Rattle.c_parser.proofs.SuffixLaws.{suffix_some, suffix_mark, decrement_there, suffix_deep, index_suffix, call_suffix, dot_suffix, arrow_suffix, increment_suffix, decrement_suffix}
use Rattle.c_parser.proofs.LeafLaws.{nothing_primary, number_primary, character_primary, mark_primary, parenthesized_shape}
use Rattle.c_parser.proofs.Climbs.{climb_first, climb_first_stops, climb_next, climb_stops, climb_end, operator_ahead}
use Rattle.c_parser.proofs.parser.Parser.+parse.Goals.{unary-in_default-kind-via-in-Word+else-eq, unary-in_default-kind-via-in_default-kind, specifier-then-is_type_word-via-then-is_type_word, specifier-then-is_type_word-via-else-is_type_word+then-is_storage_word, specifier-else-not-typed-via-then-not-typed+then-is_identifier+else-is_typedef_name, specifier-else-not-typed-via-then-not-typed+else-is_identifier, specifier-else-not-typed-via-else-not-typed, specifier_row-then-typed, specifier_row-else-typed, declared-in_default-kind-via-in-Word+then-has_name+else-is_identifier, declared-in_default-kind-via-in-Word+else-has_name, declared-in_default-kind-via-in_default-kind, takes_parameters-then-not-inner, takes_parameters-else-not-inner}
use Rattle.c_grammar.specs.Derivation.{start}
use Rattle.c_scopes.specs.ScopeLog.{entry_of, innermost}
use Rattle.c_parts.specs.Kinds.{kind_of, row_of, mode_of}
use Rattle.c_parts.specs.Nodes.{declares_nothing}
use Rattle.c_parts.specs.Pushed.{IsPushed, ArePushed}
use Rattle.c_parts.specs.Says.{IsSpecifier}
use Rattle.c_parts.proofs.PushLaws.{alone}
use Rattle.c_parser.proofs.Handed.{gives_behind, gives_kept, gives_more, row_on, row_same}
use Rattle.c_parser.proofs.BraceRows.{in_braces_first, in_braces_stops, in_braces_next, in_braces_end, in_braces_end_comma}
use Rattle.c_parser.proofs.SpecRows.{members_first_stops, specs_row_first_stops, struct_row, reading_members_first, reading_members_stops, reading_members_next, reading_members_end, reading_specs_first, reading_specs_stops, reading_specs_next, reading_specs_end}
use Rattle.c_parser.proofs.SpecSteps.{specifier_nothing, specifier_no_word, specifier_is_word, specifier_struct, specifier_enum, specifier_name, specifier_wrong, tagged_entered, tag_body, tag_expected, tagged_alone, tagged_with_body, body_shape, enumerator_expected, enumerator_named, value_shape, value_nothing}
use Rattle.c_parser.proofs.SpecGives.{or_first, or_second, tagged_quiet, tagged_says, after_enumerator}
use Rattle.c_parser.proofs.Fronts.{IsNext, next_less, some_height, specifiers_stop, specifiers_found, front_stops, behind_stops, both_made, type_name_shape, parameter_shape, member_first, member_stops, member_then, member_made}
use Rattle.c_parser.proofs.DeclaratorGives.{declarator_made, suffix_made, parameters_on, after_silent}
use Rattle.c_parser.proofs.DeclaratorSteps.{named_fewer, behind_fewer, unnamed_fewer, shorter_pointer, declared_nothing, declared_star, declared_parenthesis, declared_name, declared_other, name_needed, undeclared_deep, undeclared_read, no_name_first, no_name_allowed, same_word, mark_some}
use Rattle.c_parser.proofs.Suffixes.{reading_suffixes_stops, reading_suffixes_next, reading_suffixes_end}
use Rattle.c_parser.proofs.SuffixSteps.{declared_on, declared_suffix_deep, suffix_array, suffix_takes, array_shape, takes_no_parameters, takes_void_first, takes_others, void_alone, void_wrong, void_deep, void_goes_on, scoped_shape, no_length, some_length}
use Rattle.c_parser.proofs.Parameters.{parameter_names, reading_parameters_first, reading_parameters_stops, reading_parameters_next, reading_parameters_end}
use Rattle.c_syntax.specs.declared.kind.SynKind.TheVariants as kind
use Rattle.c_lexer.specs.declared.token.TokenKind.TheVariants as token
use Rattle.c_parser.proofs.parser.Parser.+parse.Goals as goal
use Rattle.c_grammar.specs.Reading as reading

-- ---- comma

pub comma-returns-in_err-lower : goal.comma-returns-in_err-lower
comma-returns-in_err-lower t c = λ names x under read.
    gives_stop itself _ _ _ _ _ _ _ _ c.in_err-lower.field-0.0 c.from_residual.ensures (
    link_deep kind.Comma [] Goal.assignment c.args.budget names x c.args.self.now.rest.now _ (comma_link c.args.budget names x c.args.self.now.rest.now c.requires)
    c.args.left.height read.pushed.height_is c.enter.new.self.rest.now c.in_err-lower.field-0.0 c.in_err-lower.ensures.lower c.in_err-lower.ensures.rest)

pub comma-returns-in_err-right : goal.comma-returns-in_err-right
unfolding goal_in
comma-returns-in_err-right t c = λ names x under read.
    let entered = c.in_ok-lower.ensures in
    gives_stop itself _ _ _ _ _ _ _ _ c.in_err-right.field-0.0 c.from_residual-in_err-right.ensures (
    link_stops kind.Comma [] Goal.assignment c.args.budget names x c.args.self.now.rest.now _ (comma_link c.args.budget names x c.args.self.now.rest.now c.requires)
    c.args.left.height read.pushed.height_is c.in_ok-lower.lower entered.lower c.enter.new.self.names c.enter.new.self.rest.now (entered.kept.names_are ∙ read.names_are) entered.rest
    _ c.in_err-right.field-0.0 c.in_err-right.ensures)

pub comma-returns : goal.comma-returns
unfolding goal_in
comma-returns t c = λ names x under read.
    let entered = c.in_ok-lower.ensures in
    let right = c.in_ok-right.ensures in
    let left = c.args.left in
    two_made kind.Comma [] left.start refl (λ t. height x < height t) _ c.args.budget c.in_ok-lower.lower (length c.args.self.now.rest.now) entered.lower.next
    names x under left c.in_ok-right.right c.args.self.now c.enter.new.self _ _ _ c.assignment.new.self c.assignment.new.self _ c.above_two.result
    read (lower_fits entered.lower) entered.kept right (keeps_same c.assignment.new.self) refl
    (shorter_behind c.args.self.now.rest.now c.enter.new.self.rest.now c.assignment.new.self.rest.now entered.rest right.shorter) c.above_two.ensures.tree
    (link_found kind.Comma [] Goal.assignment c.args.budget names x c.args.self.now.rest.now _ (comma_link c.args.budget names x c.args.self.now.rest.now c.requires)
    left.height read.pushed.height_is c.in_ok-lower.lower entered.lower c.enter.new.self.names c.enter.new.self.rest.now (entered.kept.names_are ∙ read.names_are) entered.rest
    left.start read.pushed.start_is right.tree c.assignment.new.self.rest.now right.found_is)
    (omega arith)

-- ---- expression

pub expression-returns-in_err-operands : goal.expression-returns-in_err-operands
expression-returns-in_err-operands t c = gives_stop itself _ _ _ _ _ _ _ _ c.in_err-operands.field-0.0 c.from_residual.ensures (
    expression_stops c.args.budget (below c.args.budget) c.args.self.now.names c.args.self.now.rest.now _ c.in_err-operands.field-0.0 c.in_err-operands.ensures)

pub expression-loop-self-init : goal.expression-loop-self-init
expression-loop-self-init t c =
    let first = c.in_ok-operands.ensures in
    record {
      tree = first.tree;
      read = expression_first c.args.budget (below c.args.budget) c.args.self.now.names c.args.self.now.rest.now c.in_ok-operands.operands.height first.tree _ first.found_is;
      is_read = first.read;
      low = first.low;
      shorter = first.shorter;
    }

pub expression-returns-in_err-operands-2 : goal.expression-returns-in_err-operands-2
expression-returns-in_err-operands-2 t c =
    let so_far = c.loop-self.invariant in
    let x = so_far.tree in
    gives_stop itself _ _ _ _ _ _ _ _ c.in_err-operands-2.field-0.0 c.from_residual-in_err-operands-2.ensures (
    chain_stops _ c.args.budget _ _ c.loop-self.operands.height x c.loop-self.self.rest.now _ _ so_far.read
    (commas_split c.args.budget (below c.args.budget) c.args.self.now.names x _ (sym c.loop-self-test.ensures))
    (c.in_err-operands-2.ensures c.args.self.now.names x (stack_of c.args.self.now.trees) so_far.is_read))

pub expression-loop-self-preserved : goal.expression-loop-self-preserved
expression-loop-self-preserved t c =
    let so_far = c.loop-self.invariant in
    let x = so_far.tree in
    let longer = c.in_ok-operands-2.ensures c.args.self.now.names x (stack_of c.args.self.now.trees) so_far.is_read in
    record {
      tree = longer.tree;
      read = chain_longer _ c.args.budget _ _ x longer.tree c.loop-self.operands c.in_ok-operands-2.operands c.loop-self.self.rest.now _ so_far.read
          (commas_split c.args.budget (below c.args.budget) c.args.self.now.names x _ (sym c.loop-self-test.ensures)) longer.found_is
          so_far.is_read.pushed.height_is longer.read.pushed.height_is longer.said longer.low;
      is_read = longer.read;
      low = longer.low;
      shorter = let a = longer.shorter in let b = so_far.shorter in omega (arith, a, b);
    }

pub expression-loop-self-smaller : goal.expression-loop-self-smaller
expression-loop-self-smaller t c =
    let so_far = c.loop-self.invariant in
    (c.in_ok-operands-2.ensures c.args.self.now.names so_far.tree (stack_of c.args.self.now.trees) so_far.is_read).shorter

pub expression-returns : goal.expression-returns
expression-returns t c =
    let so_far = c.loop-self.invariant in
    record {
      tree = so_far.tree;
      found_is = chain_end (λ k. commas c.args.budget (below c.args.budget) k c.args.self.now.names) c.args.budget _ c.loop-self.operands.height so_far.tree c.loop-self.self.rest.now so_far.read
          (commas_end c.args.budget (below c.args.budget) c.args.self.now.names so_far.tree _ (sym c.loop-self-test.ensures));
      read = so_far.is_read;
      said = tt;
      low = so_far.low;
      shorter = so_far.shorter;
    }

-- ---- arguments

pub arguments-returns-in_err-height : goal.arguments-returns-in_err-height
arguments-returns-in_err-height t c =
    let d = c.args.budget in
    gives_row_stop itself_high _ _ _ _ _ _ _ _ c.in_err-height.field-0.0 c.from_residual.ensures (
    stops_same _ _ c.assignment.new.self.rest.now c.in_err-height.field-0.0 (arguments_listed d (below d) c.args.self.now.names c.args.self.now.rest.now (sym c.at_mark.ensures ∙ c.if-at_mark.false))
    (listed_first_stops d (below d) (assignment_in d (below d)) after (length c.args.self.now.rest.now) c.args.self.now.names c.args.self.now.rest.now _ c.in_err-height.field-0.0 c.in_err-height.ensures))

pub arguments-returns-then-at_mark : goal.arguments-returns-then-at_mark
arguments-returns-then-at_mark t c = none_read _ (behind_all c.args.self.now.names) c.args.budget (suc (length c.args.self.now.rest.now)) c.args.self.now (stack_of c.args.self.now.trees)
    (no_arguments c.args.budget (below c.args.budget) c.args.self.now.names c.args.self.now.rest.now (sym c.at_mark.ensures ∙ c.if-at_mark.true)) (sym (add_nothing c.args.self.now.names)) refl (omega arith)

pub arguments-loop-self-init : goal.arguments-loop-self-init
arguments-loop-self-init t c =
    let d = c.args.budget in
    listing_first d (below d) (assignment_in d (below d)) after _ c.args.self.now.names (behind_all c.args.self.now.names) (stack_of c.args.self.now.trees) d (suc (length c.args.self.now.rest.now))
    (follows_all c.args.self.now.names) c.args.self.now.rest.now (arguments_listed d (below d) c.args.self.now.names c.args.self.now.rest.now (sym c.at_mark.ensures ∙ c.if-at_mark.false))
    _ c.assignment.new.self c.in_ok-height.field-0 c.in_ok-height.ensures (omega arith)

pub arguments-returns-in_err-assignment : goal.arguments-returns-in_err-assignment
arguments-returns-in_err-assignment t c =
    let d = c.args.budget in
    gives_row_stop itself_high _ _ _ _ _ _ _ _ c.in_err-assignment.field-0.0 c.from_residual-in_err-assignment.ensures (
    listing_stops d (below d) (assignment_in d (below d)) after _ c.args.self.now.names (behind_all c.args.self.now.names) (stack_of c.args.self.now.trees) d (suc (length c.args.self.now.rest.now))
    (follows_all c.args.self.now.names) c.loop-self.self c.loop-self.height c.loop-self.invariant (sym c.loop-self-test.ensures) c.advance.new.self c.advance.ensures.kept c.advance.ensures.rest
    _ c.in_err-assignment.field-0.0 c.in_err-assignment.ensures)

pub arguments-loop-self-preserved : goal.arguments-loop-self-preserved
arguments-loop-self-preserved t c =
    let d = c.args.budget in
    listing_next d (below d) (assignment_in d (below d)) after _ c.args.self.now.names (behind_all c.args.self.now.names) (stack_of c.args.self.now.trees) d (suc (length c.args.self.now.rest.now))
    (follows_all c.args.self.now.names) c.loop-self.self c.loop-self.height c.loop-self.invariant (sym c.loop-self-test.ensures) c.advance.new.self c.advance.ensures.kept c.advance.ensures.rest
    _ c.assignment-in-loop-self.new.self c.in_ok-assignment.field-0 c.in_ok-assignment.ensures _ (search rules)

pub arguments-loop-self-smaller : goal.arguments-loop-self-smaller
arguments-loop-self-smaller t c =
    let d = c.args.budget in
    listing_smaller d (below d) (assignment_in d (below d)) after _ c.args.self.now.names (behind_all c.args.self.now.names) (stack_of c.args.self.now.trees) d (suc (length c.args.self.now.rest.now))
    (follows_all c.args.self.now.names) c.loop-self.self c.loop-self.height c.loop-self.invariant (sym c.loop-self-test.ensures) c.advance.new.self c.advance.ensures.kept c.advance.ensures.rest
    _ c.assignment-in-loop-self.new.self c.in_ok-assignment.field-0 c.in_ok-assignment.ensures

pub arguments-returns : goal.arguments-returns
arguments-returns t c =
    let d = c.args.budget in
    listing_end d (below d) (assignment_in d (below d)) after _ c.args.self.now.names (behind_all c.args.self.now.names) (stack_of c.args.self.now.trees) d (suc (length c.args.self.now.rest.now))
    (follows_all c.args.self.now.names) (λ ts. ⊤) c.loop-self.self c.loop-self.height c.loop-self.invariant (sym c.loop-self-test.ensures) tt

-- ---- assigned

pub assigned-returns-in_err-lower : goal.assigned-returns-in_err-lower
assigned-returns-in_err-lower t c = λ names x under read.
    gives_stop itself _ _ _ _ _ _ _ _ c.in_err-lower.field-0.0 c.from_residual.ensures (
    link_deep kind.Assign (mark_text c.args.mark) Goal.assignment c.args.budget names x c.args.self.now.rest.now _
    (assigned_link c.args.budget names x c.args.self.now.rest.now c.args.mark c.requires.assigns (ap is_unary_by (sym read.pushed.kind_is) ∙ c.requires.unary))
    c.args.target.height read.pushed.height_is c.enter.new.self.rest.now c.in_err-lower.field-0.0 c.in_err-lower.ensures.lower c.in_err-lower.ensures.rest)

pub assigned-returns-in_err-value : goal.assigned-returns-in_err-value
unfolding goal_in
assigned-returns-in_err-value t c = λ names x under read.
    let entered = c.in_ok-lower.ensures in
    gives_stop itself _ _ _ _ _ _ _ _ c.in_err-value.field-0.0 c.from_residual-in_err-value.ensures (
    link_stops kind.Assign (mark_text c.args.mark) Goal.assignment c.args.budget names x c.args.self.now.rest.now _
    (assigned_link c.args.budget names x c.args.self.now.rest.now c.args.mark c.requires.assigns (ap is_unary_by (sym read.pushed.kind_is) ∙ c.requires.unary))
    c.args.target.height read.pushed.height_is c.in_ok-lower.lower entered.lower c.enter.new.self.names c.enter.new.self.rest.now (entered.kept.names_are ∙ read.names_are) entered.rest
    _ c.in_err-value.field-0.0 c.in_err-value.ensures)

pub assigned-returns : goal.assigned-returns
unfolding goal_in
assigned-returns t c = λ names x under read.
    let entered = c.in_ok-lower.ensures in
    let right = c.in_ok-value.ensures in
    let left = c.args.target in
    two_made kind.Assign c.mark_text.result.now left.start refl (λ t. height x < height t) _ c.args.budget c.in_ok-lower.lower (length c.args.self.now.rest.now) entered.lower.next
    names x under left c.in_ok-value.value c.args.self.now c.enter.new.self _ _ _ c.assignment.new.self c.assignment.new.self _ c.above_two.result
    read (lower_fits entered.lower) entered.kept right (keeps_same c.assignment.new.self) refl
    (shorter_behind c.args.self.now.rest.now c.enter.new.self.rest.now c.assignment.new.self.rest.now entered.rest right.shorter) c.above_two.ensures.tree
    (link_found kind.Assign (mark_text c.args.mark) Goal.assignment c.args.budget names x c.args.self.now.rest.now _
    (assigned_link c.args.budget names x c.args.self.now.rest.now c.args.mark c.requires.assigns (ap is_unary_by (sym read.pushed.kind_is) ∙ c.requires.unary))
    left.height read.pushed.height_is c.in_ok-lower.lower entered.lower c.enter.new.self.names c.enter.new.self.rest.now (entered.kept.names_are ∙ read.names_are) entered.rest
    left.start read.pushed.start_is right.tree c.assignment.new.self.rest.now right.found_is
    ∙ ap (λ w. found (text_node kind.Assign w left.start (two x right.tree)) c.assignment.new.self.rest.now) (sym c.mark_text.ensures))
    (omega arith)

-- ---- operand

pub operand-returns-in_err-lower : goal.operand-returns-in_err-lower
operand-returns-in_err-lower t c = λ names x under read.
    gives_stop itself _ _ _ _ _ _ _ _ c.in_err-lower.field-0.0 c.from_residual.ensures (
    link_deep kind.Binary (mark_text c.args.mark) (Goal.binary (c.args.level - 1)) c.args.budget names x c.args.self.now.rest.now _
    (operand_link c.args.budget names x c.args.self.now.rest.now c.args.mark c.args.level c.requires)
    c.args.left.height read.pushed.height_is c.enter.new.self.rest.now c.in_err-lower.field-0.0 c.in_err-lower.ensures.lower c.in_err-lower.ensures.rest)

pub operand-returns-in_err-right : goal.operand-returns-in_err-right
unfolding goal_in
operand-returns-in_err-right t c = λ names x under read.
    let entered = c.in_ok-lower.ensures in
    gives_stop itself _ _ _ _ _ _ _ _ c.in_err-right.field-0.0 c.from_residual-in_err-right.ensures (
    link_stops kind.Binary (mark_text c.args.mark) (Goal.binary (c.args.level - 1)) c.args.budget names x c.args.self.now.rest.now _
    (operand_link c.args.budget names x c.args.self.now.rest.now c.args.mark c.args.level c.requires)
    c.args.left.height read.pushed.height_is c.in_ok-lower.lower entered.lower c.enter.new.self.names c.enter.new.self.rest.now (entered.kept.names_are ∙ read.names_are) entered.rest
    _ c.in_err-right.field-0.0 c.in_err-right.ensures)

pub operand-returns : goal.operand-returns
unfolding goal_in
operand-returns t c = λ names x under read.
    let entered = c.in_ok-lower.ensures in
    let right = c.in_ok-right.ensures in
    let left = c.args.left in
    two_made kind.Binary c.mark_text.result.now left.start refl (λ t. height x < height t) _ c.args.budget c.in_ok-lower.lower (length c.args.self.now.rest.now) entered.lower.next
    names x under left c.in_ok-right.right c.args.self.now c.enter.new.self _ _ _ c.binary.new.self c.binary.new.self _ c.above_two.result
    read (lower_fits entered.lower) entered.kept right (keeps_same c.binary.new.self) refl
    (shorter_behind c.args.self.now.rest.now c.enter.new.self.rest.now c.binary.new.self.rest.now entered.rest right.shorter) c.above_two.ensures.tree
    (link_found kind.Binary (mark_text c.args.mark) (Goal.binary (c.args.level - 1)) c.args.budget names x c.args.self.now.rest.now _
    (operand_link c.args.budget names x c.args.self.now.rest.now c.args.mark c.args.level c.requires)
    left.height read.pushed.height_is c.in_ok-lower.lower entered.lower c.enter.new.self.names c.enter.new.self.rest.now (entered.kept.names_are ∙ read.names_are) entered.rest
    left.start read.pushed.start_is right.tree c.binary.new.self.rest.now right.found_is
    ∙ ap (λ w. found (text_node kind.Binary w left.start (two x right.tree)) c.binary.new.self.rest.now) (sym c.mark_text.ensures))
    (omega arith)

-- ---- assignment

pub assignment-returns-in_err-target : goal.assignment-returns-in_err-target
assignment-returns-in_err-target t c = gives_stop itself _ _ _ _ _ _ _ _ c.in_err-target.field-0.0 c.from_residual.ensures (
    assignment_stops c.args.budget (below c.args.budget) c.args.self.now.names c.args.self.now.rest.now _ c.in_err-target.field-0.0 c.in_err-target.ensures)

pub assignment-returns-in-Some : goal.assignment-returns-in-Some
assignment-returns-in-Some t c =
    let first = c.in_ok-target.ensures in
    gives_wider itself _ nothing_more _ _ (after c.args.self.now.names) (stack_of c.args.self.now.trees) c.args.budget c.args.budget _ _ c.assigned.new.self c.assigned.result
    (assignment_behind c.args.budget (below c.args.budget) c.args.self.now.names c.args.self.now.rest.now first.tree _ first.found_is) (omega arith) (let a = first.shorter in omega (arith, a)) (λ t part said. tt)
    (c.assigned.ensures c.args.self.now.names first.tree (stack_of c.args.self.now.trees) first.read)

pub assignment-returns-in_default : goal.assignment-returns-in_default
assignment-returns-in_default t c =
    let first = c.in_ok-target.ensures in
    record {
      tree = first.tree;
      found_is = assignment_behind c.args.budget (below c.args.budget) c.args.self.now.names c.args.self.now.rest.now first.tree _ first.found_is
          ∙ no_target c.args.budget (below c.args.budget) c.args.self.now.names _ first.tree (ap is_unary_by (sym first.read.pushed.kind_is) ∙ sym c.is_unary.ensures ∙ c.if-is_unary.false);
      read = first.read;
      said = tt;
      low = first.low;
      shorter = first.shorter;
    }

pub assignment-returns-in_default-2 : goal.assignment-returns-in_default-2
assignment-returns-in_default-2 t c =
    let first = c.in_ok-target.ensures in
    record {
      tree = first.tree;
      found_is = assignment_behind c.args.budget (below c.args.budget) c.args.self.now.names c.args.self.now.rest.now first.tree _ first.found_is
          ∙ not_assigned c.args.budget (below c.args.budget) c.args.self.now.names _ first.tree c.in_default.ensures.none;
      read = first.read;
      said = tt;
      low = first.low;
      shorter = first.shorter;
    }

-- ---- conditional

pub conditional-returns-in_err-condition : goal.conditional-returns-in_err-condition
conditional-returns-in_err-condition t c = gives_stop itself _ _ _ _ _ _ _ _ c.in_err-condition.field-0.0 c.from_residual.ensures (
    conditional_stops c.args.budget (below c.args.budget) c.args.self.now.names c.args.self.now.rest.now _ c.in_err-condition.field-0.0 c.in_err-condition.ensures)

pub conditional-returns-then-at_mark : goal.conditional-returns-then-at_mark
conditional-returns-then-at_mark t c =
    let first = c.in_ok-condition.ensures in
    gives_wider itself _ nothing_more _ _ (after c.args.self.now.names) (stack_of c.args.self.now.trees) c.args.budget c.args.budget _ _ c.choice.new.self c.choice.result
    (conditional_behind c.args.budget (below c.args.budget) c.args.self.now.names c.args.self.now.rest.now first.tree _ first.found_is) (omega arith) (let a = first.shorter in omega (arith, a)) (λ t part said. tt)
    (c.choice.ensures c.args.self.now.names first.tree (stack_of c.args.self.now.trees) first.read)

pub conditional-returns : goal.conditional-returns
conditional-returns t c =
    let first = c.in_ok-condition.ensures in
    record {
      tree = first.tree;
      found_is = conditional_behind c.args.budget (below c.args.budget) c.args.self.now.names c.args.self.now.rest.now first.tree _ first.found_is ∙ no_choice c.args.budget (below c.args.budget) c.args.self.now.names _ first.tree (sym c.at_mark.ensures ∙ c.if-at_mark.false);
      read = first.read;
      said = tt;
      low = first.low;
      shorter = first.shorter;
    }

-- ---- choice

pub choice-returns-in_err-lower : goal.choice-returns-in_err-lower
choice-returns-in_err-lower t c = λ names x under read.
    gives_stop itself _ _ _ _ _ _ _ _ c.in_err-lower.field-0.0 c.from_residual.ensures (
    choice_deep c.args.budget names x c.args.self.now.rest.now c.requires c.args.condition.height read.pushed.height_is c.enter.new.self.rest.now c.in_err-lower.field-0.0 c.in_err-lower.ensures.lower c.in_err-lower.ensures.rest)

pub choice-returns-in_err-then : goal.choice-returns-in_err-then
unfolding goal_in
choice-returns-in_err-then t c = λ names x under read.
    let entered = c.in_ok-lower.ensures in
    gives_stop itself _ _ _ _ _ _ _ _ c.in_err-then.field-0.0 c.from_residual-in_err-then.ensures (
    choice_first_stops c.args.budget names x c.args.self.now.rest.now c.requires c.args.condition.height read.pushed.height_is c.in_ok-lower.lower entered.lower c.enter.new.self (entered.kept.names_are ∙ read.names_are) entered.rest
    _ c.in_err-then.field-0.0 c.in_err-then.ensures)

pub choice-returns-in_err-expect : goal.choice-returns-in_err-expect
unfolding goal_in
choice-returns-in_err-expect t c = λ names x under read.
    let entered = c.in_ok-lower.ensures in
    let middle = c.in_ok-then.ensures in
    gives_stop itself _ _ _ _ _ _ _ _ c.in_err-expect.field-0.0 c.from_residual-in_err-expect.ensures (
    choice_open c.args.budget names x c.args.self.now.rest.now c.requires c.args.condition.height read.pushed.height_is c.in_ok-lower.lower entered.lower c.enter.new.self (entered.kept.names_are ∙ read.names_are) entered.rest
    middle.tree c.expression.new.self c.expect.new.self middle.found_is c.in_err-expect.field-0.0 c.in_err-expect.ensures)

pub choice-returns-in_err-other : goal.choice-returns-in_err-other
unfolding goal_in
choice-returns-in_err-other t c = λ names x under read.
    let entered = c.in_ok-lower.ensures in
    let middle = c.in_ok-then.ensures in
    gives_stop itself _ _ _ _ _ _ _ _ c.in_err-other.field-0.0 c.from_residual-in_err-other.ensures (
    choice_last_stops c.args.budget names x c.args.self.now.rest.now c.requires c.args.condition.height read.pushed.height_is c.in_ok-lower.lower entered.lower c.enter.new.self (entered.kept.names_are ∙ read.names_are) entered.rest
    middle.tree c.expression.new.self c.expect.new.self middle.found_is c.in_ok-expect.ensures middle.read.names_are _ c.in_err-other.field-0.0 c.in_err-other.ensures)

pub choice-returns : goal.choice-returns
unfolding goal_in
choice-returns t c = λ names x under read.
    let entered = c.in_ok-lower.ensures in
    let middle = c.in_ok-then.ensures in
    let passed = c.in_ok-expect.ensures in
    let last = c.in_ok-other.ensures in
    let first = c.args.condition in
    three_made kind.Cond [] first.start refl (λ t. height x < height t) _ c.args.budget c.in_ok-lower.lower (length c.args.self.now.rest.now) entered.lower.next
    names x under first c.in_ok-then.then c.in_ok-other.other c.args.self.now c.enter.new.self _ _ _ c.expression.new.self c.expect.new.self _ _ _ c.conditional.new.self c.conditional.new.self _ c.above_three.result
    read (lower_fits entered.lower) entered.kept middle passed.kept last (keeps_same c.conditional.new.self) refl
    (shorter_behind c.args.self.now.rest.now c.enter.new.self.rest.now c.conditional.new.self.rest.now entered.rest (let a = middle.shorter in let b = passed.shorter in let e = last.shorter in omega (arith, a, b, e)))
    c.above_three.ensures.tree
    (choice_found c.args.budget names x c.args.self.now.rest.now c.requires c.args.condition.height read.pushed.height_is c.in_ok-lower.lower entered.lower c.enter.new.self (entered.kept.names_are ∙ read.names_are) entered.rest
    middle.tree c.expression.new.self c.expect.new.self middle.found_is passed middle.read.names_are first.start read.pushed.start_is last.tree c.conditional.new.self.rest.now last.found_is)
    (omega arith)

-- ---- binary

pub binary-returns-in_err-operands : goal.binary-returns-in_err-operands
binary-returns-in_err-operands t c = gives_stop itself _ _ _ _ _ _ _ _ c.in_err-operands.field-0.0 c.from_residual.ensures (
    climb_first_stops c.args.budget (below c.args.budget) c.args.self.now.names c.args.loosest c.args.self.now.rest.now _ c.in_err-operands.field-0.0 c.in_err-operands.ensures)

pub binary-loop-mark-init : goal.binary-loop-mark-init
binary-loop-mark-init t c =
    let first = c.in_ok-operands.ensures in
    record {
      tree = first.tree;
      read = climb_first c.args.budget (below c.args.budget) c.args.self.now.names c.args.loosest c.args.self.now.rest.now c.in_ok-operands.operands.height first.tree _ first.found_is;
      some = omega arith;
      is_read = first.read;
      low = first.low;
      shorter = first.shorter;
    }

pub binary-operator-requires : goal.binary-operator-requires
binary-operator-requires t c = c.loop-mark.invariant.some

pub binary-operand-requires : goal.binary-operand-requires
binary-operand-requires t c = (search rules, (let a = c.in-Some.ensures.some.0 in let b = c.loop-mark.invariant.some in omega (arith, a, b), c.in-Some.ensures.some.1.1))

pub binary-returns-in_err-operands-2 : goal.binary-returns-in_err-operands-2
binary-returns-in_err-operands-2 t c =
    let so_far = c.loop-mark.invariant in
    let x = so_far.tree in
    gives_stop itself _ _ _ _ _ _ _ _ c.in_err-operands-2.field-0.0 c.from_residual-in_err-operands-2.ensures (
    climb_stops c.args.budget (below c.args.budget) c.args.self.now.names _ c.loop-mark.tightest (c.in-Some.level - 1) c.in-Some.level c.args.loosest c.loop-mark.operands.height
    x c.loop-mark.self.rest.now _ c.in_err-operands-2.field-0.0
    so_far.read (operator_ahead _ _ _ c.in-Some.ensures.some) (let a = c.in-Some.ensures.some.0 in let b = c.loop-mark.invariant.some in omega (arith, a, b))
    c.in-Some.ensures.some.0 c.in-Some.ensures.some.1.0 (c.in_err-operands-2.ensures c.args.self.now.names x (stack_of c.args.self.now.trees) so_far.is_read))

pub binary-loop-mark-preserved : goal.binary-loop-mark-preserved
binary-loop-mark-preserved t c =
    let so_far = c.loop-mark.invariant in
    let x = so_far.tree in
    let longer = c.in_ok-operands-2.ensures c.args.self.now.names x (stack_of c.args.self.now.trees) so_far.is_read in
    record {
      tree = longer.tree;
      read = climb_next c.args.budget (below c.args.budget) c.args.self.now.names _ c.loop-mark.tightest (c.in-Some.level - 1) c.in-Some.level c.args.loosest
          c.loop-mark.operands.height c.in_ok-operands-2.operands.height x longer.tree c.loop-mark.self.rest.now _
          so_far.read (operator_ahead _ _ _ c.in-Some.ensures.some) (let a = c.in-Some.ensures.some.0 in let b = c.loop-mark.invariant.some in omega (arith, a, b))
          c.in-Some.ensures.some.0 c.in-Some.ensures.some.1.0 longer.found_is
          (let h = so_far.is_read.pushed.height_is in let g = longer.read.pushed.height_is in let m = longer.said in omega (arith, h, g, m)) longer.low;
      some = let a = c.in-Some.ensures.some.0 in let b = c.loop-mark.invariant.some in omega (arith, a, b);
      is_read = longer.read;
      low = longer.low;
      shorter = let a = longer.shorter in let b = so_far.shorter in omega (arith, a, b);
    }

pub binary-loop-mark-smaller : goal.binary-loop-mark-smaller
binary-loop-mark-smaller t c =
    let so_far = c.loop-mark.invariant in
    (c.in_ok-operands-2.ensures c.args.self.now.names so_far.tree (stack_of c.args.self.now.trees) so_far.is_read).shorter

pub binary-returns : goal.binary-returns
binary-returns t c =
    let so_far = c.loop-mark.invariant in
    record {
      tree = so_far.tree;
      found_is = climb_end c.args.budget (below c.args.budget) c.args.self.now.names _ c.loop-mark.tightest c.args.loosest c.loop-mark.operands.height so_far.tree c.loop-mark.self.rest.now so_far.read c.in_default.ensures.none;
      read = so_far.is_read;
      said = tt;
      low = so_far.low;
      shorter = so_far.shorter;
    }

-- ---- cast

pub cast-returns-then-not-at_mark : goal.cast-returns-then-not-at_mark
cast-returns-then-not-at_mark t c = gives_same itself _ _ _ _ _ _ _ c.unary.new.self c.unary.result
    (no_cast c.args.budget (below c.args.budget) c.args.self.now.names c.args.self.now.rest.now (sym c.at_mark.ensures ∙ c.if-not-at_mark.true)) c.unary.ensures

pub cast-returns-then-begins_specifier : goal.cast-returns-then-begins_specifier
cast-returns-then-begins_specifier t c =
    let kept = c.advance.ensures.kept in
    gives_from itself nothing_more _ _ c.args.budget c.args.budget _ _ c.args.self.now c.advance.new.self c.cast_to.new.self c.cast_to.result kept
    (cast_named c.args.budget (below c.args.budget) c.args.self.now.names c.args.self.now.rest.now c.advance.new.self.names kept.names_are c.advance.new.self.rest.now c.advance.ensures.rest (sym c.at_mark.ensures ∙ c.if-not-at_mark.false)
    c.start-start.result c.start-start.ensures (sym c.begins_specifier.ensures ∙ c.if-begins_specifier.true))
    (omega arith) (still_shorter _ c.args.self.now.rest.now _ c.advance.ensures.rest (omega arith)) c.cast_to.ensures

pub cast-returns : goal.cast-returns
cast-returns t c =
    let kept = c.advance.ensures.kept in
    gives_from itself nothing_more _ _ c.args.budget c.args.budget _ _ c.args.self.now c.advance.new.self c.unary-2.new.self c.unary-2.result kept
    (cast_unnamed c.args.budget (below c.args.budget) c.args.self.now.names c.args.self.now.rest.now c.advance.new.self.names kept.names_are c.advance.new.self.rest.now c.advance.ensures.rest (sym c.at_mark.ensures ∙ c.if-not-at_mark.false)
    (sym c.begins_specifier.ensures ∙ c.if-begins_specifier.false))
    (omega arith) (omega arith) c.unary-2.ensures

-- ---- cast_to

pub cast_to-returns-in_err-lower : goal.cast_to-returns-in_err-lower
cast_to-returns-in_err-lower t c = gives_stop itself _ _ _ _ _ _ _ _ c.in_err-lower.field-0.0 c.from_residual.ensures (
    barred 1 c.args.budget c.args.self.now.rest.now c.args.self.now.rest.now _ c.in_err-lower.field-0.0 c.in_err-lower.ensures refl)

pub cast_to-returns-in_err-target : goal.cast_to-returns-in_err-target
unfolding goal_in
cast_to-returns-in_err-target t c = gives_stop itself _ _ _ _ _ _ _ _ c.in_err-target.field-0.0 c.from_residual-in_err-target.ensures (
    cast_first_stops c.args.budget c.in_ok-lower.lower c.in_ok-lower.ensures c.args.start c.args.self.now _ c.in_err-target.field-0.0 c.in_err-target.ensures)

pub cast_to-returns-in_err-expect : goal.cast_to-returns-in_err-expect
unfolding goal_in
cast_to-returns-in_err-expect t c =
    let first = c.in_ok-target.ensures in
    gives_stop itself _ _ _ _ _ _ _ _ c.in_err-expect.field-0.0 c.from_residual-in_err-expect.ensures (
    cast_open c.args.budget c.in_ok-lower.lower c.in_ok-lower.ensures c.args.start c.args.self.now first.tree c.type_name.new.self c.expect.new.self first.found_is c.in_err-expect.field-0.0 c.in_err-expect.ensures)

pub cast_to-returns-in_err-operand : goal.cast_to-returns-in_err-operand
unfolding goal_in
cast_to-returns-in_err-operand t c =
    let first = c.in_ok-target.ensures in
    gives_stop itself _ _ _ _ _ _ _ _ c.in_err-operand.field-0.0 c.from_residual-in_err-operand.ensures (
    cast_last_stops c.args.budget c.in_ok-lower.lower c.in_ok-lower.ensures c.args.start c.args.self.now first.tree c.type_name.new.self c.expect.new.self first.found_is c.in_ok-expect.ensures first.read.names_are
    _ c.in_err-operand.field-0.0 c.in_err-operand.ensures)

pub cast_to-returns : goal.cast_to-returns
unfolding goal_in
cast_to-returns t c =
    let first = c.in_ok-target.ensures in
    let passed = c.in_ok-expect.ensures in
    let second = c.in_ok-operand.ensures in
    two_made kind.Cast [] c.args.start refl (λ t. ⊤) _ c.args.budget c.in_ok-lower.lower (length c.args.self.now.rest.now) c.in_ok-lower.ensures.next
    c.args.self.now.names first.tree (stack_of c.args.self.now.trees) c.in_ok-target.target c.in_ok-operand.operand c.type_name.new.self c.expect.new.self _ _ _ c.cast.new.self c.cast.new.self _ c.above_two.result
    first.read first.low passed.kept second (keeps_same c.cast.new.self) refl
    (let a = first.shorter in let b = passed.shorter in let e = second.shorter in omega (arith, a, b, e)) c.above_two.ensures.tree
    (cast_found c.args.budget c.in_ok-lower.lower c.in_ok-lower.ensures c.args.start c.args.self.now first.tree c.type_name.new.self c.expect.new.self first.found_is passed first.read.names_are second.tree c.cast.new.self.rest.now second.found_is)
    tt

-- ---- unary

pub unary-returns-in_default : goal.unary-returns-in_default
unary-returns-in_default t c = gives_same itself _ _ _ _ _ _ _ c.postfix.new.self c.postfix.result
    (unary_nothing c.args.budget (below c.args.budget) c.args.self.now.names c.args.self.now.rest.now c.in_default.ensures.none) c.postfix.ensures

pub unary-prefixed-requires : goal.unary-prefixed-requires
unary-prefixed-requires t c = (search rules, placed_mark _ c.in-Some.token.now _ c.in-Some.ensures.some c.in-Punct.is)

pub unary-returns-in_err-lower-in-Word : goal.unary-returns-in_err-lower-in-Word
unary-returns-in_err-lower-in-Word t c =
    let s = placed_word _ c.in-Some.token.now _ c.as_slice.result.now c.in-Some.ensures.some c.in-Word.is c.as_slice.ensures in
    gives_stop itself _ _ _ _ _ _ _ _ c.in_err-lower-in-Word.field-0.0 c.from_residual.ensures (
    whole_barred _ 1 c.args.budget 0 _ _ (unary_size c.args.budget (below c.args.budget) c.args.self.now.names c.args.self.now.rest.now s.0 c.in-Some.token.now.start s.1.1 c.as_slice.result.now s.1.0 (sym c.eq.ensures ∙ c.if-eq.true))
    _ c.in_err-lower-in-Word.field-0.0 c.in_err-lower-in-Word.ensures.lower c.in_err-lower-in-Word.ensures.rest)

pub unary-returns-in_ok-lower-in-Word : goal.unary-returns-in_ok-lower-in-Word
unary-returns-in_ok-lower-in-Word t c =
    let s = placed_word _ c.in-Some.token.now _ c.as_slice.result.now c.in-Some.ensures.some c.in-Word.is c.as_slice.ensures in
    let entered = c.in_ok-lower-in-Word.ensures in
    gives_from itself nothing_more _ _ c.args.budget c.args.budget _ _ c.args.self.now c.enter.new.self c.size_of.new.self c.size_of.result entered.kept
    (whole_entered _ 1 c.args.budget c.in_ok-lower-in-Word.lower _ _ (unary_size c.args.budget (below c.args.budget) c.args.self.now.names c.args.self.now.rest.now s.0 c.in-Some.token.now.start s.1.1 c.as_slice.result.now s.1.0 (sym c.eq.ensures ∙ c.if-eq.true)) entered.lower
    ∙ ap₂ (size_in_at c.args.budget (below c.args.budget) c.in-Some.token.now.start) (sym entered.kept.names_are) (sym entered.rest))
    (omega arith) (still_shorter _ c.args.self.now.rest.now _ entered.rest (omega arith)) c.size_of.ensures

pub unary-returns-in_default-kind : goal.unary-returns-in_default-kind
unary-returns-in_default-kind t c = gives_same itself _ _ _ _ _ _ _ c.postfix-in_default-kind.new.self c.postfix-in_default-kind.result
    (elim c.in_default-kind.branch [
      | unary-in_default-kind-via-in-Word+else-eq w ↦
          (let s = placed_word _ c.in-Some.token.now _ w.as_slice.result.now c.in-Some.ensures.some w.in-Word.is w.as_slice.ensures in
          unary_word c.args.budget (below c.args.budget) c.args.self.now.names c.args.self.now.rest.now w.as_slice.result.now s.0 s.1.0 (sym w.eq.ensures ∙ w.if-eq.false))
      | unary-in_default-kind-via-in_default-kind w ↦
          unary_other c.args.budget (below c.args.budget) c.args.self.now.names c.args.self.now.rest.now c.in-Some.token.now c.in-Some.ensures.some w.in_default-kind.not-Punct w.in_default-kind.not-Word
    ]) c.postfix-in_default-kind.ensures

-- ---- prefixed

pub prefixed-returns-in-PlusPlus : goal.prefixed-returns-in-PlusPlus
prefixed-returns-in-PlusPlus t c = gives_same itself _ _ _ _ _ _ _ c.stepped.new.self c.stepped.result
    (unary_increment c.args.budget (below c.args.budget) c.args.self.now.names c.args.self.now.rest.now c.requires.0 c.args.start c.requires.1.1 (c.requires.1.0 ∙ ap (λ p. mark p c.requires.0 ∷ behind_one c.args.self.now.rest.now) c.in-PlusPlus.is)) c.stepped.ensures

pub prefixed-returns-in-MinusMinus : goal.prefixed-returns-in-MinusMinus
prefixed-returns-in-MinusMinus t c = gives_same itself _ _ _ _ _ _ _ c.stepped-in-MinusMinus.new.self c.stepped-in-MinusMinus.result
    (unary_decrement c.args.budget (below c.args.budget) c.args.self.now.names c.args.self.now.rest.now c.requires.0 c.args.start c.requires.1.1 (c.requires.1.0 ∙ ap (λ p. mark p c.requires.0 ∷ behind_one c.args.self.now.rest.now) c.in-MinusMinus.is)) c.stepped-in-MinusMinus.ensures

pub prefixed-returns-in_default : goal.prefixed-returns-in_default
prefixed-returns-in_default t c = gives_same itself _ _ _ _ _ _ _ c.operated.new.self c.operated.result
    (unary_operated c.args.budget (below c.args.budget) c.args.self.now.names c.args.self.now.rest.now c.requires.0 c.args.start c.requires.1.1 c.args.mark c.requires.1.0 c.in_default.not-PlusPlus c.in_default.not-MinusMinus) c.operated.ensures

-- ---- stepped

pub stepped-returns-in_err-lower : goal.stepped-returns-in_err-lower
stepped-returns-in_err-lower t c = gives_stop itself _ _ _ _ _ _ _ _ c.in_err-lower.field-0.0 c.from_residual.ensures (
    marked_deep _ c.args.budget Goal.unary c.args.text.now c.args.start c.args.self.now.names c.args.self.now.rest.now (refl)
    _ c.in_err-lower.field-0.0 c.in_err-lower.ensures.lower c.in_err-lower.ensures.rest)

pub stepped-returns-in_err-operand : goal.stepped-returns-in_err-operand
unfolding goal_in
stepped-returns-in_err-operand t c =
    let entered = c.in_ok-lower.ensures in
    gives_stop itself _ _ _ _ _ _ _ _ c.in_err-operand.field-0.0 c.from_residual-in_err-operand.ensures (
    marked_stops _ c.args.budget Goal.unary c.args.text.now c.args.start c.args.self.now.names c.args.self.now.rest.now (refl) c.in_ok-lower.lower entered.lower c.enter.new.self entered.kept.names_are entered.rest
    _ c.in_err-operand.field-0.0 c.in_err-operand.ensures)

pub stepped-returns : goal.stepped-returns
unfolding goal_in
stepped-returns t c =
    let entered = c.in_ok-lower.ensures in
    let kid = read_from _ _ _ _ c.args.self.now c.enter.new.self c.unary.new.self c.in_ok-operand.operand entered.kept c.in_ok-operand.ensures in
    one_made kind.Unary c.args.text.now c.args.start refl (λ t. ⊤) _ c.args.budget c.in_ok-lower.lower (length c.args.self.now.rest.now) entered.lower.next
    c.args.self.now.names kid.tree (stack_of c.args.self.now.trees) c.in_ok-operand.operand c.unary.new.self _ c.above.result
    kid.read kid.low refl (shorter_behind c.args.self.now.rest.now c.enter.new.self.rest.now c.unary.new.self.rest.now entered.rest kid.shorter) c.above.ensures.tree
    (marked_found _ c.args.budget Goal.unary c.args.text.now c.args.start c.args.self.now.names c.args.self.now.rest.now (refl) c.in_ok-lower.lower entered.lower c.enter.new.self entered.kept.names_are entered.rest
    kid.tree c.unary.new.self.rest.now kid.found_is)
    tt

-- ---- operated

pub operated-returns-in_err-lower : goal.operated-returns-in_err-lower
operated-returns-in_err-lower t c = gives_stop itself _ _ _ _ _ _ _ _ c.in_err-lower.field-0.0 c.from_residual.ensures (
    marked_deep _ c.args.budget Goal.cast (mark_text c.args.mark) c.args.start c.args.self.now.names c.args.self.now.rest.now (chosen _ _ _ (sym c.is_unary_operator.ensures ∙ c.if-not-is_unary_operator.false))
    _ c.in_err-lower.field-0.0 c.in_err-lower.ensures.lower c.in_err-lower.ensures.rest)

pub operated-returns-in_err-operand : goal.operated-returns-in_err-operand
unfolding goal_in
operated-returns-in_err-operand t c =
    let entered = c.in_ok-lower.ensures in
    gives_stop itself _ _ _ _ _ _ _ _ c.in_err-operand.field-0.0 c.from_residual-in_err-operand.ensures (
    marked_stops _ c.args.budget Goal.cast (mark_text c.args.mark) c.args.start c.args.self.now.names c.args.self.now.rest.now (chosen _ _ _ (sym c.is_unary_operator.ensures ∙ c.if-not-is_unary_operator.false)) c.in_ok-lower.lower entered.lower c.enter.new.self entered.kept.names_are entered.rest
    _ c.in_err-operand.field-0.0 c.in_err-operand.ensures)

pub operated-returns : goal.operated-returns
unfolding goal_in
operated-returns t c =
    let entered = c.in_ok-lower.ensures in
    let kid = read_from _ _ _ _ c.args.self.now c.enter.new.self c.cast.new.self c.in_ok-operand.operand entered.kept c.in_ok-operand.ensures in
    one_made kind.Unary c.mark_text.result.now c.args.start refl (λ t. ⊤) _ c.args.budget c.in_ok-lower.lower (length c.args.self.now.rest.now) entered.lower.next
    c.args.self.now.names kid.tree (stack_of c.args.self.now.trees) c.in_ok-operand.operand c.cast.new.self _ c.above.result
    kid.read kid.low refl (shorter_behind c.args.self.now.rest.now c.enter.new.self.rest.now c.cast.new.self.rest.now entered.rest kid.shorter) c.above.ensures.tree
    (marked_found _ c.args.budget Goal.cast (mark_text c.args.mark) c.args.start c.args.self.now.names c.args.self.now.rest.now (chosen _ _ _ (sym c.is_unary_operator.ensures ∙ c.if-not-is_unary_operator.false)) c.in_ok-lower.lower entered.lower c.enter.new.self entered.kept.names_are entered.rest
    kid.tree c.cast.new.self.rest.now kid.found_is
    ∙ ap (λ w. found (text_node kind.Unary w c.args.start (one kid.tree)) c.cast.new.self.rest.now) (sym c.mark_text.ensures))
    tt

pub operated-returns-then-not-is_unary_operator : goal.operated-returns-then-not-is_unary_operator
operated-returns-then-not-is_unary_operator t c = gives_same itself _ _ _ _ _ _ _ c.postfix.new.self c.postfix.result
    (not_chosen _ _ _ (sym c.is_unary_operator.ensures ∙ c.if-not-is_unary_operator.true)) c.postfix.ensures

-- ---- size_of

pub size_of-returns-then-not-at_mark : goal.size_of-returns-then-not-at_mark
size_of-returns-then-not-at_mark t c = gives_wider itself nothing_more nothing_more _ _ _ _ (suc c.args.lower) c.args.budget _ _ c.size_of_operand.new.self c.size_of_operand.result
    (size_open c.args.budget (below c.args.budget) c.args.self.now.names c.args.self.now.rest.now c.args.start (sym c.at_mark.ensures ∙ c.if-not-at_mark.true) ∙ ap (λ r. size_of_operand r c.args.start c.args.self.now.names c.args.self.now.rest.now) c.requires.1)
    (let e = c.requires.0 in omega (arith, e)) (omega arith) (λ t part said. tt) c.size_of_operand.ensures

pub size_of-returns-in_err-enter : goal.size_of-returns-in_err-enter
size_of-returns-in_err-enter t c =
    let ent = c.in_err-enter.ensures in
    gives_stop itself _ _ _ _ _ _ _ _ c.in_err-enter.field-0.0 c.from_residual.ensures (
    size_deep c.args.budget (below c.args.budget) c.args.self.now.names c.args.self.now.rest.now c.enter.new.self.names ent.kept.names_are c.enter.new.self.rest.now ent.rest (sym c.at_mark.ensures ∙ c.if-not-at_mark.false) c.args.start _ c.in_err-enter.field-0.0 ent.lower ent.rest)

pub size_of-returns-then-begins_specifier : goal.size_of-returns-then-begins_specifier
size_of-returns-then-begins_specifier t c =
    let ent = c.in_ok-enter.ensures in
    gives_from itself nothing_more _ _ (suc c.args.lower) c.args.budget _ _ c.args.self.now c.enter.new.self c.size_of_type.new.self c.size_of_type.result ent.kept
    (size_named c.args.budget (below c.args.budget) c.args.self.now.names c.args.self.now.rest.now c.enter.new.self.names ent.kept.names_are c.enter.new.self.rest.now ent.rest (sym c.at_mark.ensures ∙ c.if-not-at_mark.false) c.args.start c.in_ok-enter.field-0 ent.lower _ c.requires.1 (sym c.begins_specifier.ensures ∙ c.if-begins_specifier.true))
    (let e = c.requires.0 in omega (arith, e)) (still_shorter _ c.args.self.now.rest.now _ ent.rest (omega arith)) c.size_of_type.ensures

pub size_of-returns : goal.size_of-returns
size_of-returns t c =
    let ent = c.in_ok-enter.ensures in
    gives_from itself nothing_more _ _ (suc c.args.lower) c.args.budget _ _ c.args.self.now c.enter.new.self c.size_of_operand-2.new.self c.size_of_operand-2.result ent.kept
    (size_unnamed c.args.budget (below c.args.budget) c.args.self.now.names c.args.self.now.rest.now c.enter.new.self.names ent.kept.names_are c.enter.new.self.rest.now ent.rest (sym c.at_mark.ensures ∙ c.if-not-at_mark.false) c.args.start c.in_ok-enter.field-0 ent.lower _ c.requires.1 (sym c.begins_specifier.ensures ∙ c.if-begins_specifier.false))
    (let e = c.requires.0 in omega (arith, e)) (omega arith) c.size_of_operand-2.ensures

-- ---- size_of_operand

pub size_of_operand-returns-in_err-operand : goal.size_of_operand-returns-in_err-operand
unfolding goal_in
size_of_operand-returns-in_err-operand t c = gives_stop itself _ _ _ _ _ _ _ _ c.in_err-operand.field-0.0 c.from_residual.ensures (
    operand_stops _ c.args.lower refl c.args.self.now.names c.args.self.now.rest.now c.args.self.now refl refl Goal.unary _ _ refl _ c.in_err-operand.field-0.0 c.in_err-operand.ensures)

pub size_of_operand-returns : goal.size_of_operand-returns
unfolding goal_in
size_of_operand-returns t c =
    let kid = c.in_ok-operand.ensures in
    one_made kind.SizeExpr [] c.args.start refl (λ t. ⊤) _ (suc c.args.lower) c.args.lower (length c.args.self.now.rest.now) refl
    c.args.self.now.names kid.tree (stack_of c.args.self.now.trees) c.in_ok-operand.operand c.unary.new.self _ c.above.result
    kid.read kid.low refl kid.shorter c.above.ensures.tree
    (operand_found _ c.args.lower refl c.args.self.now.names c.args.self.now.rest.now c.args.self.now refl refl Goal.unary _ (λ x end. found (plain_node kind.SizeExpr c.args.start (one x)) end) refl kid.tree c.unary.new.self.rest.now kid.found_is)
    tt

-- ---- postfix

pub postfix-returns-in_err-operand : goal.postfix-returns-in_err-operand
postfix-returns-in_err-operand t c = gives_stop itself _ _ _ _ _ _ _ _ c.in_err-operand.field-0.0 c.from_residual.ensures (
    postfix_stops c.args.budget (below c.args.budget) c.args.self.now.names c.args.self.now.rest.now _ c.in_err-operand.field-0.0 c.in_err-operand.ensures)

pub postfix-loop-self-init : goal.postfix-loop-self-init
postfix-loop-self-init t c =
    let first = c.in_ok-operand.ensures in
    record {
      tree = first.tree;
      read = postfix_first c.args.budget (below c.args.budget) c.args.self.now.names c.args.self.now.rest.now c.in_ok-operand.operand.height first.tree _ first.found_is;
      is_read = first.read;
      low = first.low;
      shorter = first.shorter;
    }

pub postfix-returns-in_err-operand-2 : goal.postfix-returns-in_err-operand-2
postfix-returns-in_err-operand-2 t c =
    let so_far = c.loop-self.invariant in
    let x = so_far.tree in
    gives_stop itself _ _ _ _ _ _ _ _ c.in_err-operand-2.field-0.0 c.from_residual-in_err-operand-2.ensures (
    chain_stops _ c.args.budget _ _ c.loop-self.operand.height x c.loop-self.self.rest.now _ _ so_far.read
    (suffixes_split c.args.budget (below c.args.budget) c.args.self.now.names x _ (sym c.begins_suffix.ensures ∙ c.loop-self-test.true))
    (c.in_err-operand-2.ensures c.args.self.now.names x (stack_of c.args.self.now.trees) so_far.is_read))

pub postfix-loop-self-preserved : goal.postfix-loop-self-preserved
postfix-loop-self-preserved t c =
    let so_far = c.loop-self.invariant in
    let x = so_far.tree in
    let longer = c.in_ok-operand-2.ensures c.args.self.now.names x (stack_of c.args.self.now.trees) so_far.is_read in
    record {
      tree = longer.tree;
      read = chain_longer _ c.args.budget _ _ x longer.tree c.loop-self.operand c.in_ok-operand-2.operand c.loop-self.self.rest.now _ so_far.read
          (suffixes_split c.args.budget (below c.args.budget) c.args.self.now.names x _ (sym c.begins_suffix.ensures ∙ c.loop-self-test.true)) longer.found_is
          so_far.is_read.pushed.height_is longer.read.pushed.height_is longer.said longer.low;
      is_read = longer.read;
      low = longer.low;
      shorter = let a = longer.shorter in let b = so_far.shorter in omega (arith, a, b);
    }

pub postfix-loop-self-smaller : goal.postfix-loop-self-smaller
postfix-loop-self-smaller t c =
    let so_far = c.loop-self.invariant in
    (c.in_ok-operand-2.ensures c.args.self.now.names so_far.tree (stack_of c.args.self.now.trees) so_far.is_read).shorter

pub postfix-returns : goal.postfix-returns
postfix-returns t c =
    let so_far = c.loop-self.invariant in
    record {
      tree = so_far.tree;
      found_is = chain_end (λ k. suffixes c.args.budget (below c.args.budget) k c.args.self.now.names) c.args.budget _ c.loop-self.operand.height so_far.tree c.loop-self.self.rest.now so_far.read
          (suffixes_end c.args.budget (below c.args.budget) c.args.self.now.names so_far.tree _ (sym c.begins_suffix.ensures ∙ c.loop-self-test.false));
      read = so_far.is_read;
      said = tt;
      low = so_far.low;
      shorter = so_far.shorter;
    }

-- ---- suffix

pub suffix-returns-in_default : goal.suffix-returns-in_default
suffix-returns-in_default t c = λ names x under read. absurd (suffix_some _ c.in_default.ensures.none c.requires)

pub suffix-returns-in_default-kind : goal.suffix-returns-in_default-kind
suffix-returns-in_default-kind t c = λ names x under read. absurd (suffix_mark _ c.in-Some.token.now c.in-Some.ensures.some c.in_default-kind.not-Punct c.requires)

pub suffix-returns-in_err-lower : goal.suffix-returns-in_err-lower
suffix-returns-in_err-lower t c = λ names x under read.
    gives_stop itself _ _ _ _ _ _ _ _ c.in_err-lower.field-0.0 c.from_residual.ensures (
    suffix_deep c.args.budget names x c.args.self.now.rest.now c.args.operand.height read.pushed.height_is c.requires
    _ c.in_err-lower.field-0.0 c.in_err-lower.ensures.lower c.in_err-lower.ensures.rest)

pub suffix-returns-in-LeftBracket : goal.suffix-returns-in-LeftBracket
suffix-returns-in-LeftBracket t c = λ names x under read.
    let entered = c.in_ok-lower.ensures in
    let s = some_mark _ c.in-Some.token.now LeftBracket c.in-Some.ensures.some (c.in-Punct.is ∙ ap token.Punct c.in-LeftBracket.is) in
    gives_wider itself _ _ _ _ (after names) under (suc c.in_ok-lower.lower) c.args.budget _ _ c.indexed.new.self c.indexed.result
    (index_suffix c.args.budget names x c.args.self.now.rest.now c.args.operand.height read.pushed.height_is c.in_ok-lower.lower entered.lower s.0 c.enter.new.self.rest.now entered.rest s.1)
    (let e = entered.lower.next in omega (arith, e)) (still_shorter _ c.args.self.now.rest.now _ entered.rest (omega arith)) (λ t part said. said)
    (c.indexed.ensures names x under (read_on names x under c.args.operand c.args.self.now c.enter.new.self entered.kept read))

pub suffix-returns-in-LeftParenthesis : goal.suffix-returns-in-LeftParenthesis
suffix-returns-in-LeftParenthesis t c = λ names x under read.
    let entered = c.in_ok-lower.ensures in
    let s = some_mark _ c.in-Some.token.now LeftParenthesis c.in-Some.ensures.some (c.in-Punct.is ∙ ap token.Punct c.in-LeftParenthesis.is) in
    gives_wider itself _ _ _ _ (after names) under (suc c.in_ok-lower.lower) c.args.budget _ _ c.called.new.self c.called.result
    (call_suffix c.args.budget names x c.args.self.now.rest.now c.args.operand.height read.pushed.height_is c.in_ok-lower.lower entered.lower s.0 c.enter.new.self.rest.now entered.rest s.1)
    (let e = entered.lower.next in omega (arith, e)) (still_shorter _ c.args.self.now.rest.now _ entered.rest (omega arith)) (λ t part said. said)
    (c.called.ensures names x under (read_on names x under c.args.operand c.args.self.now c.enter.new.self entered.kept read))

pub suffix-returns-in-Dot : goal.suffix-returns-in-Dot
suffix-returns-in-Dot t c = λ names x under read.
    let entered = c.in_ok-lower.ensures in
    let s = some_mark _ c.in-Some.token.now Dot c.in-Some.ensures.some (c.in-Punct.is ∙ ap token.Punct c.in-Dot.is) in
    gives_wider itself _ _ _ _ (after names) under (suc c.args.operand.height) c.args.budget _ _ c.selected.new.self c.selected.result
    (dot_suffix c.args.budget names x c.args.self.now.rest.now c.args.operand.height read.pushed.height_is c.in_ok-lower.lower entered.lower s.0 c.enter.new.self.rest.now entered.rest s.1)
    entered.lower.fits (still_shorter _ c.args.self.now.rest.now _ entered.rest (omega arith)) (λ t part said. said)
    (c.selected.ensures names x under (read_on names x under c.args.operand c.args.self.now c.enter.new.self entered.kept read))

pub suffix-returns-in-Arrow : goal.suffix-returns-in-Arrow
suffix-returns-in-Arrow t c = λ names x under read.
    let entered = c.in_ok-lower.ensures in
    let s = some_mark _ c.in-Some.token.now Arrow c.in-Some.ensures.some (c.in-Punct.is ∙ ap token.Punct c.in-Arrow.is) in
    gives_wider itself _ _ _ _ (after names) under (suc c.args.operand.height) c.args.budget _ _ c.selected-in-Arrow.new.self c.selected-in-Arrow.result
    (arrow_suffix c.args.budget names x c.args.self.now.rest.now c.args.operand.height read.pushed.height_is c.in_ok-lower.lower entered.lower s.0 c.enter.new.self.rest.now entered.rest s.1)
    entered.lower.fits (still_shorter _ c.args.self.now.rest.now _ entered.rest (omega arith)) (λ t part said. said)
    (c.selected-in-Arrow.ensures names x under (read_on names x under c.args.operand c.args.self.now c.enter.new.self entered.kept read))

pub suffix-returns-in-PlusPlus : goal.suffix-returns-in-PlusPlus
suffix-returns-in-PlusPlus t c = λ names x under read.
    let entered = c.in_ok-lower.ensures in
    let s : (at : Place) × (c.args.self.now.rest.now ≡ mark PlusPlus at ∷ behind_one c.args.self.now.rest.now) = some_mark _ c.in-Some.token.now PlusPlus c.in-Some.ensures.some (c.in-Punct.is ∙ ap token.Punct c.in-PlusPlus.is) in
    let kid = c.args.operand in
    one_made kind.Post (codes "++") kid.start refl (λ t. height x < height t) _ c.args.budget c.in_ok-lower.lower (length c.args.self.now.rest.now) entered.lower.next
    names x under kid c.enter.new.self _ c.above.result
    (read_on names x under kid c.args.self.now c.enter.new.self entered.kept read) (lower_fits entered.lower) refl
    (some_shorter _ _ entered.rest (some_token _ c.in-Some.token.now c.in-Some.ensures.some)) c.above.ensures.tree
    (increment_suffix c.args.budget names x c.args.self.now.rest.now c.args.operand.height read.pushed.height_is c.in_ok-lower.lower entered.lower s.0 c.enter.new.self.rest.now entered.rest kid.start read.pushed.start_is s.1)
    (omega arith)

pub suffix-returns-in_default-mark : goal.suffix-returns-in_default-mark
suffix-returns-in_default-mark t c = λ names x under read.
    let entered = c.in_ok-lower.ensures in
    let s : (at : Place) × (c.args.self.now.rest.now ≡ mark MinusMinus at ∷ behind_one c.args.self.now.rest.now) = decrement_there _ c.in-Some.token.now _ c.in-Some.ensures.some c.in-Punct.is c.requires c.in_default-mark.not-LeftBracket c.in_default-mark.not-LeftParenthesis c.in_default-mark.not-Dot c.in_default-mark.not-Arrow c.in_default-mark.not-PlusPlus in
    let kid = c.args.operand in
    one_made kind.Post (codes "--") kid.start refl (λ t. height x < height t) _ c.args.budget c.in_ok-lower.lower (length c.args.self.now.rest.now) entered.lower.next
    names x under kid c.enter.new.self _ c.above-in_default-mark.result
    (read_on names x under kid c.args.self.now c.enter.new.self entered.kept read) (lower_fits entered.lower) refl
    (some_shorter _ _ entered.rest (some_token _ c.in-Some.token.now c.in-Some.ensures.some)) c.above-in_default-mark.ensures.tree
    (decrement_suffix c.args.budget names x c.args.self.now.rest.now c.args.operand.height read.pushed.height_is c.in_ok-lower.lower entered.lower s.0 c.enter.new.self.rest.now entered.rest kid.start read.pushed.start_is s.1)
    (omega arith)

-- ---- indexed

pub indexed-returns-in_err-index : goal.indexed-returns-in_err-index
unfolding goal_in
indexed-returns-in_err-index t c = λ names x under read.
    gives_stop itself _ _ _ _ _ _ _ _ c.in_err-index.field-0.0 c.from_residual.ensures (
    operand_stops _ c.args.lower refl (after names x) c.args.self.now.rest.now c.args.self.now read.names_are refl Goal.expression _ _ refl _ c.in_err-index.field-0.0 c.in_err-index.ensures)

pub indexed-returns-in_err-expect : goal.indexed-returns-in_err-expect
unfolding goal_in
indexed-returns-in_err-expect t c = λ names x under read.
    let second = c.in_ok-index.ensures in
    gives_stop itself _ _ _ _ _ _ _ _ c.in_err-expect.field-0.0 c.from_residual-in_err-expect.ensures (
    closed_open _ c.args.lower refl (after names x) c.args.self.now.rest.now c.args.self.now read.names_are refl Goal.expression _ RightBracket _ refl
    second.tree c.expression.new.self c.expect.new.self second.found_is c.in_err-expect.field-0.0 c.in_err-expect.ensures)

pub indexed-returns : goal.indexed-returns
unfolding goal_in
indexed-returns t c = λ names x under read.
    let second = c.in_ok-index.ensures in
    let passed = c.in_ok-expect.ensures in
    let first = c.args.array in
    two_made kind.Index [] first.start refl (λ t. height x < height t) _ (suc c.args.lower) c.args.lower (length c.args.self.now.rest.now) refl
    names x under first c.in_ok-index.index c.args.self.now c.args.self.now _ _ _ c.expression.new.self c.expect.new.self _ c.above_two.result
    read c.requires.fits (keeps_same c.args.self.now) second passed.kept refl
    (let a = second.shorter in let b = passed.shorter in omega (arith, a, b)) c.above_two.ensures.tree
    (closed_found _ c.args.lower refl (after names x) c.args.self.now.rest.now c.args.self.now read.names_are refl Goal.expression _ RightBracket (λ y end. found (plain_node kind.Index x.label.start (two x y)) end) refl
    second.tree c.expression.new.self c.expect.new.self second.found_is passed
    ∙ ap (λ n. found (plain_node kind.Index n (two x second.tree)) c.expect.new.self.rest.now) (sym read.pushed.start_is))
    (omega arith)

-- ---- called

pub called-returns-in_err-height : goal.called-returns-in_err-height
unfolding rows_in
called-returns-in_err-height t c = λ names x under read.
    gives_stop itself _ _ _ _ _ _ _ _ c.in_err-height.field-0.0 c.from_residual.ensures (
    closed_row_stops _ c.args.lower refl (after names x) c.args.self.now.rest.now c.args.self.now read.names_are refl Rows.arguments _ RightParenthesis _ refl _ c.in_err-height.field-0.0 c.in_err-height.ensures)

pub called-returns-in_err-expect : goal.called-returns-in_err-expect
unfolding rows_in
called-returns-in_err-expect t c = λ names x under read.
    let row = c.in_ok-height.ensures in
    gives_stop itself _ _ _ _ _ _ _ _ c.in_err-expect.field-0.0 c.from_residual-in_err-expect.ensures (
    closed_row_open _ c.args.lower refl (after names x) c.args.self.now.rest.now c.args.self.now read.names_are refl Rows.arguments _ RightParenthesis _ refl
    (forest_of row.trees) c.arguments.new.self c.expect.new.self row.found_is c.in_err-expect.field-0.0 c.in_err-expect.ensures)

pub called-returns : goal.called-returns
unfolding rows_in
called-returns t c = λ names x under read.
    let row = c.in_ok-height.ensures in
    let passed = c.in_ok-expect.ensures in
    let first = c.args.function in
    first_made kind.Call [] first.start refl (λ t. height x < height t) _ (suc c.args.lower) c.args.lower (length c.args.self.now.rest.now) refl
    names x under first c.args.self.now c.args.self.now _ _ _ c.in_ok-height.height c.arguments.new.self c.expect.new.self _ c.above_first.result
    read c.requires.fits (keeps_same c.args.self.now) row passed.kept refl
    (let a = row.shorter in let b = passed.shorter in omega (arith, a, b))
    (λ t ts under. c.above_first.ensures.tree t ts under (stack_of c.args.self.now.trees) c.len-mark.ensures)
    (closed_row_found _ c.args.lower refl (after names x) c.args.self.now.rest.now c.args.self.now read.names_are refl Rows.arguments _ RightParenthesis (λ ys end. found (plain_node kind.Call x.label.start (x then ys)) end) refl
    (forest_of row.trees) c.arguments.new.self c.expect.new.self row.found_is passed
    ∙ ap (λ n. found (plain_node kind.Call n (x then forest_of row.trees)) c.expect.new.self.rest.now) (sym read.pushed.start_is))
    (omega arith)

-- ---- primary

pub primary-returns-in_default : goal.primary-returns-in_default
primary-returns-in_default t c = nothing_primary c.args.budget (below c.args.budget) c.args.self.now.names c.args.self.now.rest.now c.in_default.ensures.none

pub primary-variable-requires : goal.primary-variable-requires
primary-variable-requires t c = placed_word _ c.in-Some.token.now _ _ c.in-Some.ensures.some c.in-Word.is c.as_slice.ensures

pub primary-string-requires : goal.primary-string-requires
primary-string-requires t c = placed_string _ c.in-Some.token.now _ c.in-Some.ensures.some c.in-Str.is

pub primary-parenthesized-requires : goal.primary-parenthesized-requires
primary-parenthesized-requires t c = (search rules, placed_mark _ c.in-Some.token.now LeftParenthesis c.in-Some.ensures.some (c.in-Punct.is ∙ ap token.Punct c.in-LeftParenthesis.is))

pub primary-returns-in-Int : goal.primary-returns-in-Int
primary-returns-in-Int t c = gives_same itself _ _ _ _ _ _ _ c.constant.new.self c.constant.result
    (number_primary c.args.budget (below c.args.budget) c.args.self.now.names c.args.self.now.rest.now c.in-Some.token.now _ _ c.in-Some.ensures.some c.in-Int.is) c.constant.ensures

pub primary-returns-in-Char : goal.primary-returns-in-Char
primary-returns-in-Char t c = gives_same itself _ _ _ _ _ _ _ c.constant-in-Char.new.self c.constant-in-Char.result
    (character_primary c.args.budget (below c.args.budget) c.args.self.now.names c.args.self.now.rest.now c.in-Some.token.now _ c.in-Some.ensures.some c.in-Char.is) c.constant-in-Char.ensures

pub primary-returns-in_default-mark : goal.primary-returns-in_default-mark
primary-returns-in_default-mark t c = mark_primary c.args.budget (below c.args.budget) c.args.self.now.names c.args.self.now.rest.now c.in-Some.token.now _ c.in-Some.ensures.some c.in-Punct.is c.in_default-mark.not-LeftParenthesis

-- ---- parenthesized

pub parenthesized-returns-in_err-lower : goal.parenthesized-returns-in_err-lower
parenthesized-returns-in_err-lower t c = gives_stop itself _ _ _ _ _ _ _ _ c.in_err-lower.field-0.0 c.from_residual.ensures (
    whole_barred _ 1 c.args.budget 0 _ _ (parenthesized_shape c.args.budget (below c.args.budget) c.args.self.now.names c.args.self.now.rest.now c.requires.0 c.args.start c.requires.1.0 c.requires.1.1)
    _ c.in_err-lower.field-0.0 c.in_err-lower.ensures.lower c.in_err-lower.ensures.rest)

pub parenthesized-returns-in_err-inner : goal.parenthesized-returns-in_err-inner
unfolding goal_in
parenthesized-returns-in_err-inner t c =
    let entered = c.in_ok-lower.ensures in
    gives_stop itself _ _ _ _ _ _ _ _ c.in_err-inner.field-0.0 c.from_residual-in_err-inner.ensures (
    operand_stops (below c.args.budget) c.in_ok-lower.lower entered.lower.level_is c.args.self.now.names (behind_one c.args.self.now.rest.now) c.enter.new.self entered.kept.names_are entered.rest Goal.expression _ _
    (whole_entered _ 1 c.args.budget c.in_ok-lower.lower _ _ (parenthesized_shape c.args.budget (below c.args.budget) c.args.self.now.names c.args.self.now.rest.now c.requires.0 c.args.start c.requires.1.0 c.requires.1.1) entered.lower) _ c.in_err-inner.field-0.0 c.in_err-inner.ensures)

pub parenthesized-returns-in_err-expect : goal.parenthesized-returns-in_err-expect
unfolding goal_in
parenthesized-returns-in_err-expect t c =
    let entered = c.in_ok-lower.ensures in
    let inner = c.in_ok-inner.ensures in
    gives_stop itself _ _ _ _ _ _ _ _ c.in_err-expect.field-0.0 c.from_residual-in_err-expect.ensures (
    closed_open (below c.args.budget) c.in_ok-lower.lower entered.lower.level_is c.args.self.now.names (behind_one c.args.self.now.rest.now) c.enter.new.self entered.kept.names_are entered.rest Goal.expression _ RightParenthesis _
    (whole_entered _ 1 c.args.budget c.in_ok-lower.lower _ _ (parenthesized_shape c.args.budget (below c.args.budget) c.args.self.now.names c.args.self.now.rest.now c.requires.0 c.args.start c.requires.1.0 c.requires.1.1) entered.lower) inner.tree c.expression.new.self c.expect.new.self inner.found_is c.in_err-expect.field-0.0 c.in_err-expect.ensures)

pub parenthesized-returns : goal.parenthesized-returns
unfolding goal_in
parenthesized-returns t c =
    let entered = c.in_ok-lower.ensures in
    let inner = read_from _ _ _ _ c.args.self.now c.enter.new.self c.expression.new.self c.in_ok-inner.inner entered.kept c.in_ok-inner.ensures in
    let passed = c.in_ok-expect.ensures in
    one_made kind.Paren [] c.args.start refl (λ t. ⊤) _ c.args.budget c.in_ok-lower.lower (length c.args.self.now.rest.now) entered.lower.next
    c.args.self.now.names inner.tree (stack_of c.args.self.now.trees) c.in_ok-inner.inner c.expect.new.self _ c.above.result
    (read_on c.args.self.now.names inner.tree (stack_of c.args.self.now.trees) c.in_ok-inner.inner c.expression.new.self c.expect.new.self passed.kept inner.read) inner.low refl
    (shorter_behind c.args.self.now.rest.now c.enter.new.self.rest.now c.expect.new.self.rest.now entered.rest (let a = inner.shorter in let b = passed.shorter in omega (arith, a, b))) c.above.ensures.tree
    (closed_found (below c.args.budget) c.in_ok-lower.lower entered.lower.level_is c.args.self.now.names (behind_one c.args.self.now.rest.now) c.enter.new.self entered.kept.names_are entered.rest Goal.expression _ RightParenthesis (λ x end. found (plain_node kind.Paren c.args.start (one x)) end)
    (whole_entered _ 1 c.args.budget c.in_ok-lower.lower _ _ (parenthesized_shape c.args.budget (below c.args.budget) c.args.self.now.names c.args.self.now.rest.now c.requires.0 c.args.start c.requires.1.0 c.requires.1.1) entered.lower) inner.tree c.expression.new.self c.expect.new.self inner.found_is passed)
    tt

-- ---- size_of_type

pub size_of_type-returns-in_err-target : goal.size_of_type-returns-in_err-target
unfolding goal_in
size_of_type-returns-in_err-target t c = gives_stop itself _ _ _ _ _ _ _ _ c.in_err-target.field-0.0 c.from_residual.ensures (
    operand_stops _ c.args.lower refl c.args.self.now.names c.args.self.now.rest.now c.args.self.now refl refl Goal.type_name _ _ refl _ c.in_err-target.field-0.0 c.in_err-target.ensures)

pub size_of_type-returns-in_err-expect : goal.size_of_type-returns-in_err-expect
unfolding goal_in
size_of_type-returns-in_err-expect t c =
    let kid = c.in_ok-target.ensures in
    gives_stop itself _ _ _ _ _ _ _ _ c.in_err-expect.field-0.0 c.from_residual-in_err-expect.ensures (
    closed_open _ c.args.lower refl c.args.self.now.names c.args.self.now.rest.now c.args.self.now refl refl Goal.type_name _ RightParenthesis _ refl kid.tree c.type_name.new.self c.expect.new.self kid.found_is c.in_err-expect.field-0.0 c.in_err-expect.ensures)

pub size_of_type-returns : goal.size_of_type-returns
unfolding goal_in
size_of_type-returns t c =
    let kid = c.in_ok-target.ensures in
    let passed = c.in_ok-expect.ensures in
    let under = stack_of c.args.self.now.trees in
    one_made kind.SizeType [] c.args.start refl (λ t. ⊤) _ (suc c.args.lower) c.args.lower (length c.args.self.now.rest.now) refl
    c.args.self.now.names kid.tree under c.in_ok-target.target c.expect.new.self _ c.above.result
    (read_on c.args.self.now.names kid.tree under c.in_ok-target.target c.type_name.new.self c.expect.new.self passed.kept kid.read) kid.low refl
    (let a = kid.shorter in let b = passed.shorter in omega (arith, a, b)) c.above.ensures.tree
    (closed_found _ c.args.lower refl c.args.self.now.names c.args.self.now.rest.now c.args.self.now refl refl Goal.type_name _ RightParenthesis (λ t end. found (plain_node kind.SizeType c.args.start (one t)) end) refl
    kid.tree c.type_name.new.self c.expect.new.self kid.found_is passed)
    tt

-- ---- specs

pub specs-returns-in_err-row : goal.specs-returns-in_err-row
specs-returns-in_err-row t c = gives_stop (λ s. s.part) SaysSpecs _ _ _ _ _ _ _ c.in_err-row.field-0.0 c.from_residual.ensures (
    specifiers_stop c.args.budget c.next_lower.result (c.next_lower.ensures.none, c.next_lower.ensures.lower, c.next_lower.ensures.less) c.args.self.now.names c.args.self.now.rest.now
    _ c.in_err-row.field-0.0 c.in_err-row.ensures)

pub specs-returns : goal.specs-returns
specs-returns t c =
    let names = c.args.self.now.names in
    let row = c.in_ok-row.ensures in
    let f = forest_of row.trees in
    let some = row.said.some in
    let one_high = some_height row.trees c.in_ok-row.row.height some row.read.pushed.height_is in
    let is : IsNext c.args.budget c.next_lower.result = (c.next_lower.ensures.none, c.next_lower.ensures.lower, c.next_lower.ensures.less) in
    record {
      tree = plain_node kind.Specs c.in_ok-row.row.start f;
      found_is = specifiers_found c.args.budget c.next_lower.result is names c.args.self.now.rest.now c.in_ok-row.row.start f _ row.found_is row.said.row_is.start_is;
      read = record {
        names_are = row.read.names_are ∙ sym (after_node names kind.Specs [] c.in_ok-row.row.start f refl);
        pushed = c.in_ok-part.ensures.tree row.trees (stack_of c.args.self.now.trees) c.len-mark.ensures row.read.pushed;
      };
      said = record { kind_is = refl; typedef_is = row.said.row_is.typedef_is };
      low = let h = c.in_ok-part.ensures.height in let l = row.low in let n = next_less c.args.budget c.next_lower.result c.in_ok-row.row.height is one_high row.low in omega (arith, h, l, n);
      shorter = row.shorter;
    }

pub specifier_row-returns-in_err-first : goal.specifier_row-returns-in_err-first
specifier_row-returns-in_err-first t c = gives_row_stop (λ row. row.height) SaysSpecifiers _ _ _ _ _ _ _ c.in_err-first.field-0.0 c.from_residual.ensures (
    specs_row_first_stops c.args.budget (below c.args.budget) (length c.args.self.now.rest.now) false c.args.self.now.names c.args.self.now.rest.now _ c.in_err-first.field-0.0 c.in_err-first.ensures)

pub specifier_row-loop-self-init : goal.specifier_row-loop-self-init
specifier_row-loop-self-init t c =
    let d = c.args.budget in
    let ts = c.args.self.now.rest.now in
    reading_specs_first d (below d) _ c.args.self.now.names (stack_of c.args.self.now.trees) d (length ts) ts refl c.specifier.new.self c.in_ok-first.first c.in_ok-first.ensures (omega arith)
    _ refl refl refl

pub specifier_row-returns-in_err-next : goal.specifier_row-returns-in_err-next
specifier_row-returns-in_err-next t c =
    let d = c.args.budget in
    gives_row_stop (λ row. row.height) SaysSpecifiers _ _ _ _ _ _ _ c.in_err-next.field-0.0 c.from_residual-in_err-next.ensures (
    reading_specs_stops d (below d) _ c.args.self.now.names (stack_of c.args.self.now.trees) d (length c.args.self.now.rest.now) c.loop-self.self c.loop-self.typed c.loop-self.row c.loop-self.invariant
    (sym c.loop-self-test.ensures) _ c.in_err-next.field-0.0 c.in_err-next.ensures)

pub specifier_row-loop-self-preserved-then-row : goal.specifier_row-loop-self-preserved-then-row
specifier_row-loop-self-preserved-then-row t c =
    let d = c.args.budget in
    let typed : c.if-typed.typed ≡ c.loop-self.typed || c.in_ok-next.next.says_type
    = elim c.if-typed.branch [ specifier_row-then-typed w ↦ search rules | specifier_row-else-typed w ↦ search rules ] in
    reading_specs_next d (below d) _ c.args.self.now.names (stack_of c.args.self.now.trees) d (length c.args.self.now.rest.now) c.loop-self.self c.loop-self.typed c.loop-self.row c.loop-self.invariant
    (sym c.loop-self-test.ensures) c.specifier-in-loop-self.new.self c.in_ok-next.next c.in_ok-next.ensures c.if-typed.typed _ typed (search rules) refl
    (or_first c.loop-self.row.is_typedef c.in_ok-next.next.is_typedef c.if-row.true)

pub specifier_row-loop-self-preserved : goal.specifier_row-loop-self-preserved
specifier_row-loop-self-preserved t c =
    let d = c.args.budget in
    let typed : c.if-typed.typed ≡ c.loop-self.typed || c.in_ok-next.next.says_type
    = elim c.if-typed.branch [ specifier_row-then-typed w ↦ search rules | specifier_row-else-typed w ↦ search rules ] in
    reading_specs_next d (below d) _ c.args.self.now.names (stack_of c.args.self.now.trees) d (length c.args.self.now.rest.now) c.loop-self.self c.loop-self.typed c.loop-self.row c.loop-self.invariant
    (sym c.loop-self-test.ensures) c.specifier-in-loop-self.new.self c.in_ok-next.next c.in_ok-next.ensures c.if-typed.typed _ typed (search rules) refl
    (or_second c.loop-self.row.is_typedef c.in_ok-next.next.is_typedef c.if-row.false)

pub specifier_row-returns : goal.specifier_row-returns
specifier_row-returns t c =
    let d = c.args.budget in
    reading_specs_end d (below d) _ c.args.self.now.names (stack_of c.args.self.now.trees) d (length c.args.self.now.rest.now) c.loop-self.self c.loop-self.typed c.loop-self.row c.loop-self.invariant
    (sym c.loop-self-test.ensures)

-- ---- one of them

pub specifier-returns-in_default : goal.specifier-returns-in_default
specifier-returns-in_default t c = specifier_nothing c.args.budget (below c.args.budget) c.args.typed c.args.self.now.names c.args.self.now.rest.now (search rules)

pub specifier-returns-in_default-kind : goal.specifier-returns-in_default-kind
specifier-returns-in_default-kind t c =
    specifier_no_word c.args.budget (below c.args.budget) c.args.typed c.args.self.now.names c.args.self.now.rest.now c.in-Some.token.now c.in-Some.ensures.some (λ text e. c.in_default-kind.not-Word text e)

pub specifier-returns-then-is_type_word : goal.specifier-returns-then-is_type_word
specifier-returns-then-is_type_word t c =
    let text = c.as_slice-text.result.now in
    let types : (is_type_word text || is_storage_word text) ≡ true
    = elim c.then-is_type_word.branch [
      | specifier-then-is_type_word-via-then-is_type_word w ↦ search rules
      | specifier-then-is_type_word-via-else-is_type_word+then-is_storage_word w ↦ search rules
    ] in
    gives_same (λ s. s.part) IsSpecifier _ _ _ _ _ _ _ c.specifier_word.result
    (specifier_is_word c.args.budget (below c.args.budget) c.args.typed c.args.self.now.names c.args.self.now.rest.now c.in-Some.token.now _ text c.in-Some.ensures.some c.in-Word.is c.as_slice-text.ensures
    types) c.specifier_word.ensures

pub specifier-returns-then-eq : goal.specifier-returns-then-eq
specifier-returns-then-eq t c =
    let text = c.as_slice-text.result.now in
    let no_word : (is_type_word text || is_storage_word text) ≡ false = search rules in
    gives_same (λ s. s.part) IsSpecifier _ _ _ _ _ _ _ c.tagged.result
    (specifier_struct c.args.budget (below c.args.budget) c.args.typed c.args.self.now.names c.args.self.now.rest.now c.in-Some.token.now _ text c.in-Some.ensures.some c.in-Word.is c.as_slice-text.ensures
    no_word (sym c.eq.ensures ∙ c.if-eq.true)) c.tagged.ensures

pub specifier-returns-then-eq-2 : goal.specifier-returns-then-eq-2
specifier-returns-then-eq-2 t c =
    let text = c.as_slice-text.result.now in
    let no_word : (is_type_word text || is_storage_word text) ≡ false = search rules in
    gives_same (λ s. s.part) IsSpecifier _ _ _ _ _ _ _ c.tagged-then-eq-2.result
    (specifier_enum c.args.budget (below c.args.budget) c.args.typed c.args.self.now.names c.args.self.now.rest.now c.in-Some.token.now _ text c.in-Some.ensures.some c.in-Word.is c.as_slice-text.ensures
    no_word (sym c.eq.ensures ∙ c.if-eq.false) (sym c.eq-2.ensures ∙ c.if-eq-2.true)) c.tagged-then-eq-2.ensures

pub specifier-returns-then-is_typedef_name : goal.specifier-returns-then-is_typedef_name
specifier-returns-then-is_typedef_name t c =
    let text = c.as_slice-text.result.now in
    let no_word : (is_type_word text || is_storage_word text) ≡ false = search rules in
    let named : (not c.args.typed && (is_identifier text && is_typedef_name c.args.self.now.names text)) ≡ true = search rules in
    gives_same (λ s. s.part) IsSpecifier _ _ _ _ _ _ _ c.specifier_word-then-is_typedef_name.result
    (specifier_name c.args.budget (below c.args.budget) c.args.typed c.args.self.now.names c.args.self.now.rest.now c.in-Some.token.now _ text c.in-Some.ensures.some c.in-Word.is c.as_slice-text.ensures
    no_word (sym c.eq.ensures ∙ c.if-eq.false) (sym c.eq-2.ensures ∙ c.if-eq-2.false) named) c.specifier_word-then-is_typedef_name.ensures

pub specifier-returns : goal.specifier-returns
specifier-returns t c =
    let text = c.as_slice-text.result.now in
    let no_word : (is_type_word text || is_storage_word text) ≡ false = search rules in
    let other : (not c.args.typed && (is_identifier text && is_typedef_name c.args.self.now.names text)) ≡ false
    = elim c.else-not-typed.branch [
      | specifier-else-not-typed-via-then-not-typed+then-is_identifier+else-is_typedef_name w ↦ search rules
      | specifier-else-not-typed-via-then-not-typed+else-is_identifier w ↦ search rules
      | specifier-else-not-typed-via-else-not-typed w ↦ search rules
    ] in
    specifier_wrong c.args.budget (below c.args.budget) c.args.typed c.args.self.now.names c.args.self.now.rest.now c.in-Some.token.now _ text c.in-Some.ensures.some c.in-Word.is c.as_slice-text.ensures
    no_word (sym c.eq.ensures ∙ c.if-eq.false) (sym c.eq-2.ensures ∙ c.if-eq-2.false) other

-- ---- structs and enums

pub tagged-returns-in_err-enter : goal.tagged-returns-in_err-enter
tagged-returns-in_err-enter t c = gives_stop (λ s. s.part) IsSpecifier _ _ _ _ _ _ _ c.in_err-enter.field-0.0 c.from_residual.ensures (
    barred 0 c.args.budget _ _ _ c.in_err-enter.field-0.0 c.in_err-enter.ensures.lower c.in_err-enter.ensures.rest)

pub tagged-returns-in_err-part : goal.tagged-returns-in_err-part
tagged-returns-in_err-part t c =
    gives_stop (λ s. s.part) IsSpecifier _ _ _ _ _ _ _ c.in_err-part.field-0.0 c.from_residual-in_err-part.ensures (
    stops_same _ _ _ c.in_err-part.field-0.0
    (tagged_entered c.args.budget (below c.args.budget) (kind_of c.args.tagged) (row_of c.args.tagged) c.args.start c.args.self.now c.enter.new.self c.in_ok-enter.field-0
    c.in_ok-enter.ensures.kept c.in_ok-enter.ensures.rest c.in_ok-enter.ensures.lower) c.in_err-part.ensures)

pub tagged-returns : goal.tagged-returns
tagged-returns t c =
    let entering = c.in_ok-enter.ensures in
    let moved = read_from _ _ _ _ c.args.self.now c.enter.new.self c.tag.new.self c.in_ok-part.part entering.kept c.in_ok-part.ensures in
    record {
      tree = moved.tree;
      found_is = tagged_entered c.args.budget (below c.args.budget) (kind_of c.args.tagged) (row_of c.args.tagged) c.args.start c.args.self.now c.enter.new.self c.in_ok-enter.field-0
          entering.kept entering.rest entering.lower ∙ moved.found_is;
      read = moved.read;
      said = tagged_says c.args.tagged moved.tree _ moved.said refl refl;
      low = moved.low;
      shorter = shorter_behind c.args.self.now.rest.now _ _ entering.rest moved.shorter;
    }

pub tag-returns-then-at_mark : goal.tag-returns-then-at_mark
tag-returns-then-at_mark t c =
    let d = c.args.budget in
    let kept = c.advance.ensures.kept in
    gives_behind itself (λ t part. t.label.kind ≡ kind_of c.args.tagged) _ _ d c.args.self.now c.advance.new.self c.tagged_body.new.self c.tagged_body.result kept c.advance.ensures.rest
    (tag_body d (below d) (kind_of c.args.tagged) (row_of c.args.tagged) c.args.self.now.names c.args.start c.args.self.now.rest.now (sym c.at_mark.ensures ∙ c.if-at_mark.true)
    ∙ ap₂ (body_of d (below d) (kind_of c.args.tagged) (row_of c.args.tagged) [] c.args.start) (sym kept.names_are) (sym c.advance.ensures.rest))
    c.tagged_body.ensures

pub tag-returns-in_err-tag : goal.tag-returns-in_err-tag
tag-returns-in_err-tag t c =
    let d = c.args.budget in
    gives_stop itself _ _ _ _ _ _ _ _ c.in_err-tag.field-0.0 c.from_residual.ensures (
    stops_same _ _ _ c.in_err-tag.field-0.0
    (tag_expected d (below d) (kind_of c.args.tagged) (row_of c.args.tagged) c.args.self.now.names c.args.start c.args.self.now.rest.now (sym c.at_mark.ensures ∙ c.if-at_mark.false))
    (balked_name c.args.self.now c.expect_identifier.new.self _ c.in_err-tag.field-0.0 c.in_err-tag.ensures))

pub tag-returns-then-at_mark-2 : goal.tag-returns-then-at_mark-2
tag-returns-then-at_mark-2 t c =
    let d = c.args.budget in
    let passed = c.in_ok-tag.ensures in
    let kept = c.advance-then-at_mark-2.ensures.kept in
    let next = c.advance-then-at_mark-2.ensures.rest in
    let kind = kind_of c.args.tagged in
    let row = row_of c.args.tagged in
    let tag = c.in_ok-tag.tag.now in
    let same = tag_expected d (below d) kind row c.args.self.now.names c.args.start c.args.self.now.rest.now (sym c.at_mark.ensures ∙ c.if-at_mark.false) ∙ passed.goes_on _
    ∙ tagged_with_body d (below d) kind row c.args.self.now.names tag c.args.start c.expect_identifier.new.self.rest.now (sym c.at_mark-2.ensures ∙ c.if-at_mark-2.true)
    ∙ ap₂ (body_of d (below d) kind row tag c.args.start) (sym (kept.names_are ∙ passed.kept.names_are)) (sym next) in
    gives_kept itself (λ t part. t.label.kind ≡ kind) _ _ d c.args.self.now c.advance-then-at_mark-2.new.self c.tagged_body-then-at_mark-2.new.self c.tagged_body-then-at_mark-2.result
    (keeps_then c.args.self.now c.expect_identifier.new.self c.advance-then-at_mark-2.new.self passed.kept kept)
    (let a = passed.shorter in let b = behind_one_shorter c.expect_identifier.new.self.rest.now in let e = ap length next in omega (arith, a, b, e)) same c.tagged_body-then-at_mark-2.ensures

pub tag-returns : goal.tag-returns
tag-returns t c =
    let d = c.args.budget in
    let passed = c.in_ok-tag.ensures in
    let kind = kind_of c.args.tagged in
    let row = row_of c.args.tagged in
    let tag = c.in_ok-tag.tag.now in
    let names = c.args.self.now.names in
    let node = text_node c.kind.result tag c.args.start none in
    made (λ t. t.label.kind ≡ kind) _ (after names) node (stack_of c.args.self.now.trees) d (length c.args.self.now.rest.now) _ c.leaf.result
    (pushed_leaf node c.args.self.now c.expect_identifier.new.self _ _ passed.kept c.leaf.ensures.tree)
    (tag_expected d (below d) kind row names c.args.start c.args.self.now.rest.now (sym c.at_mark.ensures ∙ c.if-at_mark.false) ∙ passed.goes_on _
    ∙ tagged_alone d (below d) kind row names tag c.args.start c.expect_identifier.new.self.rest.now (sym c.at_mark-2.ensures ∙ c.if-at_mark-2.false)
    ∙ ap (λ k. found (text_node k tag c.args.start none) c.expect_identifier.new.self.rest.now) (sym c.kind.ensures))
    (passed.kept.names_are ∙ sym (after_none names c.kind.result tag c.args.start (ap declares_nothing c.kind.ensures ∙ tagged_quiet c.args.tagged))) c.kind.ensures
    (let f = c.requires in omega (arith, f)) passed.shorter

pub tagged_body-returns-in_err-lower : goal.tagged_body-returns-in_err-lower
tagged_body-returns-in_err-lower t c =
    let d = c.args.budget in
    gives_stop itself _ _ _ _ _ _ _ _ c.in_err-lower.field-0.0 c.from_residual.ensures (
    whole_barred _ 1 d 0 _ _ (body_shape d (below d) (kind_of c.args.tagged) (row_of c.args.tagged) c.args.self.now.names c.args.tag.now c.args.start c.args.self.now.rest.now)
    _ c.in_err-lower.field-0.0 c.in_err-lower.ensures refl)

pub tagged_body-returns-in_err-height : goal.tagged_body-returns-in_err-height
tagged_body-returns-in_err-height t c =
    let d = c.args.budget in
    let names = c.args.self.now.names in
    let ts = c.args.self.now.rest.now in
    let lower = c.in_ok-lower.lower in
    let entering = c.in_ok-lower.ensures in
    gives_stop itself _ _ _ _ _ _ _ _ c.in_err-height.field-0.0 c.from_residual-in_err-height.ensures (
    row_stops _ 1 d lower entering (row_of c.args.tagged) names names ts ts _
    (whole_entered _ 1 d lower _ _ (body_shape d (below d) (kind_of c.args.tagged) (row_of c.args.tagged) names c.args.tag.now c.args.start ts) entering) refl refl
    _ c.in_err-height.field-0.0 c.in_err-height.ensures)

pub tagged_body-returns-in_err-expect : goal.tagged_body-returns-in_err-expect
tagged_body-returns-in_err-expect t c =
    let d = c.args.budget in
    let names = c.args.self.now.names in
    let ts = c.args.self.now.rest.now in
    let lower = c.in_ok-lower.lower in
    let entering = c.in_ok-lower.ensures in
    let row = c.in_ok-height.ensures in
    gives_stop itself _ _ _ _ _ _ _ _ c.in_err-expect.field-0.0 c.from_residual-in_err-expect.ensures (
    stops_same _ _ _ c.in_err-expect.field-0.0
    (row_found _ 1 d lower entering (row_of c.args.tagged) names names ts ts _
    (whole_entered _ 1 d lower _ _ (body_shape d (below d) (kind_of c.args.tagged) (row_of c.args.tagged) names c.args.tag.now c.args.start ts) entering) refl refl
    (forest_of row.trees) _ row.found_is)
    (balked RightBrace c.tagged_row.new.self c.expect.new.self _ c.in_err-expect.field-0.0 c.in_err-expect.ensures))

pub tagged_body-returns : goal.tagged_body-returns
tagged_body-returns t c =
    let d = c.args.budget in
    let names = c.args.self.now.names in
    let ts = c.args.self.now.rest.now in
    let lower = c.in_ok-lower.lower in
    let entering = c.in_ok-lower.ensures in
    let row = c.in_ok-height.ensures in
    let passing = c.in_ok-expect.ensures in
    let tag = c.args.tag.now in
    row_made c.kind.result tag c.args.start (ap declares_nothing c.kind.ensures ∙ tagged_quiet c.args.tagged) (λ t. t.label.kind ≡ kind_of c.args.tagged) _ d lower (length ts) entering.next
    names row.trees (stack_of c.args.self.now.trees) c.in_ok-height.height c.expect.new.self _ c.above_row.result
    (row_on names row.trees (stack_of c.args.self.now.trees) c.tagged_row.new.self c.expect.new.self c.in_ok-height.height passing.kept row.read) row.low refl
    (let a = passing.shorter in let b = row.shorter in omega (arith, a, b))
    (c.above_row.ensures.tree row.trees (stack_of c.args.self.now.trees) c.len-mark.ensures)
    (row_found _ 1 d lower entering (row_of c.args.tagged) names names ts ts _
    (whole_entered _ 1 d lower _ _ (body_shape d (below d) (kind_of c.args.tagged) (row_of c.args.tagged) names tag c.args.start ts) entering) refl refl
    (forest_of row.trees) _ row.found_is
    ∙ passed RightBrace c.tagged_row.new.self c.expect.new.self _ passing
    ∙ ap (λ k. found (text_node k tag c.args.start (forest_of row.trees)) c.expect.new.self.rest.now) (sym c.kind.ensures))
    c.kind.ensures

pub tagged_row-returns-in-Struct : goal.tagged_row-returns-in-Struct
tagged_row-returns-in-Struct t c =
    row_same itself_high no_more _ _ _ _ _ _ _ c.members.result (struct_row c.args.budget (below c.args.budget) c.args.tagged c.args.self.now.names c.args.self.now.rest.now c.in-Struct.is) c.members.ensures

-- ---- members

pub members-returns-in_err-height : goal.members-returns-in_err-height
members-returns-in_err-height t c = gives_row_stop itself_high _ _ _ _ _ _ _ _ c.in_err-height.field-0.0 c.from_residual.ensures (
    members_first_stops c.args.budget (below c.args.budget) (length c.args.self.now.rest.now) c.args.self.now.names c.args.self.now.rest.now _ c.in_err-height.field-0.0 c.in_err-height.ensures)

pub members-loop-self-init : goal.members-loop-self-init
members-loop-self-init t c =
    let d = c.args.budget in
    let ts = c.args.self.now.rest.now in
    reading_members_first d (below d) _ c.args.self.now.names (stack_of c.args.self.now.trees) d (length ts) ts refl _ c.member.new.self c.in_ok-height.field-0 c.in_ok-height.ensures (omega arith)

pub members-returns-in_err-member : goal.members-returns-in_err-member
members-returns-in_err-member t c =
    let d = c.args.budget in
    gives_row_stop itself_high _ _ _ _ _ _ _ _ c.in_err-member.field-0.0 c.from_residual-in_err-member.ensures (
    reading_members_stops d (below d) _ c.args.self.now.names (stack_of c.args.self.now.trees) d (length c.args.self.now.rest.now) c.loop-self.self c.loop-self.height c.loop-self.invariant
    (sym c.loop-self-test.ensures) _ c.in_err-member.field-0.0 c.in_err-member.ensures)

pub members-loop-self-preserved : goal.members-loop-self-preserved
members-loop-self-preserved t c =
    let d = c.args.budget in
    reading_members_next d (below d) _ c.args.self.now.names (stack_of c.args.self.now.trees) d (length c.args.self.now.rest.now) c.loop-self.self c.loop-self.height c.loop-self.invariant
    (sym c.loop-self-test.ensures) _ c.member-in-loop-self.new.self c.in_ok-member.field-0 c.in_ok-member.ensures _ (search rules)

pub members-returns : goal.members-returns
members-returns t c =
    let d = c.args.budget in
    reading_members_end d (below d) _ c.args.self.now.names (stack_of c.args.self.now.trees) d (length c.args.self.now.rest.now) c.loop-self.self c.loop-self.height c.loop-self.invariant
    (sym c.loop-self-test.ensures)

pub member-returns-in_err-specs : goal.member-returns-in_err-specs
member-returns-in_err-specs t c = gives_stop itself nothing_more _ _ _ _ _ _ _ c.in_err-specs.field-0.0 c.from_residual.ensures (
    member_first c.args.budget c.next_lower.result (c.next_lower.ensures.none, c.next_lower.ensures.lower, c.next_lower.ensures.less) c.args.self.now.names c.args.self.now.rest.now
    _ c.in_err-specs.field-0.0 c.in_err-specs.ensures)

pub member-returns-in_err-height : goal.member-returns-in_err-height
member-returns-in_err-height t c = gives_stop itself nothing_more _ _ _ _ _ _ _ c.in_err-height.field-0.0 c.from_residual-in_err-height.ensures (
    member_stops c.args.budget c.next_lower.result c.next_lower-2.result (c.next_lower.ensures.none, c.next_lower.ensures.lower, c.next_lower.ensures.less)
    (c.next_lower-2.ensures.none, c.next_lower-2.ensures.lower, c.next_lower-2.ensures.less) c.args.self.now.names c.args.self.now.rest.now _ _ _ c.specs.new.self c.in_ok-specs.field-0.part c.in_ok-specs.ensures
    _ c.in_err-height.field-0.0 c.in_err-height.ensures)

pub member-returns-in_err-expect : goal.member-returns-in_err-expect
member-returns-in_err-expect t c =
    let row = c.in_ok-height.ensures in
    gives_stop itself nothing_more _ _ _ _ _ _ _ c.in_err-expect.field-0.0 c.from_residual-in_err-expect.ensures (
    stops_same _ _ _ c.in_err-expect.field-0.0
    (member_then c.args.budget c.next_lower.result c.next_lower-2.result (c.next_lower.ensures.none, c.next_lower.ensures.lower, c.next_lower.ensures.less)
    (c.next_lower-2.ensures.none, c.next_lower-2.ensures.lower, c.next_lower-2.ensures.less) c.args.self.now.names c.args.self.now.rest.now _ _ _ c.specs.new.self c.in_ok-specs.field-0.part c.in_ok-specs.ensures
    (forest_of row.trees) _ row.found_is)
    (balked Semicolon c.declarators.new.self c.expect.new.self _ c.in_err-expect.field-0.0 c.in_err-expect.ensures))

pub member-returns : goal.member-returns
member-returns t c =
    let row = c.in_ok-height.ensures in
    member_made c.args.budget c.next_lower.result c.next_lower-2.result (c.next_lower.ensures.none, c.next_lower.ensures.lower, c.next_lower.ensures.less)
    (c.next_lower-2.ensures.none, c.next_lower-2.ensures.lower, c.next_lower-2.ensures.less) c.args.self.now.names c.args.self.now.rest.now _ (length c.args.self.now.rest.now)
    (stack_of c.args.self.now.trees) c.specs.new.self c.in_ok-specs.field-0.part c.in_ok-specs.ensures
    _ _ c.declarators.new.self c.expect.new.self _ c.in_ok-height.height c.above_first.result refl row c.in_ok-expect.ensures refl refl c.in_ok-specs.ensures.shorter
    (λ t ts under a b. c.above_first.ensures.tree t ts under (stack_of c.specs.new.self.trees) c.len-mark.ensures a b)

pub declarators-returns-in_err-height : goal.declarators-returns-in_err-height
unfolding reading.rows_in
declarators-returns-in_err-height t c =
    let d = c.args.budget in
    gives_row_stop itself_high _ _ _ _ _ _ _ _ c.in_err-height.field-0.0 c.from_residual.ensures (
    listed_first_stops d (below d) (reading.declared_in d (below d) reading.named) after (length c.args.self.now.rest.now) c.args.self.now.names c.args.self.now.rest.now
    _ c.in_err-height.field-0.0 c.in_err-height.ensures)

pub declarators-loop-self-init : goal.declarators-loop-self-init
unfolding reading.rows_in
declarators-loop-self-init t c =
    let d = c.args.budget in
    listing_first d (below d) (reading.declared_in d (below d) reading.named) after _ c.args.self.now.names (behind_all c.args.self.now.names) (stack_of c.args.self.now.trees) d (length c.args.self.now.rest.now)
    (follows_all c.args.self.now.names) c.args.self.now.rest.now refl _ c.declared.new.self c.in_ok-height.field-0.part c.in_ok-height.ensures (omega arith)

pub declarators-returns-in_err-declared : goal.declarators-returns-in_err-declared
declarators-returns-in_err-declared t c =
    let d = c.args.budget in
    gives_row_stop itself_high _ _ _ _ _ _ _ _ c.in_err-declared.field-0.0 c.from_residual-in_err-declared.ensures (
    listing_stops d (below d) (reading.declared_in d (below d) reading.named) after _ c.args.self.now.names (behind_all c.args.self.now.names) (stack_of c.args.self.now.trees) d (length c.args.self.now.rest.now)
    (follows_all c.args.self.now.names) c.loop-self.self c.loop-self.height c.loop-self.invariant (sym c.loop-self-test.ensures) c.advance.new.self c.advance.ensures.kept c.advance.ensures.rest
    _ c.in_err-declared.field-0.0 c.in_err-declared.ensures)

pub declarators-loop-self-preserved : goal.declarators-loop-self-preserved
declarators-loop-self-preserved t c =
    let d = c.args.budget in
    listing_next d (below d) (reading.declared_in d (below d) reading.named) after _ c.args.self.now.names (behind_all c.args.self.now.names) (stack_of c.args.self.now.trees) d (length c.args.self.now.rest.now)
    (follows_all c.args.self.now.names) c.loop-self.self c.loop-self.height c.loop-self.invariant (sym c.loop-self-test.ensures) c.advance.new.self c.advance.ensures.kept c.advance.ensures.rest
    _ c.declared-in-loop-self.new.self c.in_ok-declared.field-0.part c.in_ok-declared.ensures _ (search rules)

pub declarators-returns : goal.declarators-returns
declarators-returns t c =
    let d = c.args.budget in
    listing_end d (below d) (reading.declared_in d (below d) reading.named) after _ c.args.self.now.names (behind_all c.args.self.now.names) (stack_of c.args.self.now.trees) d (length c.args.self.now.rest.now)
    (follows_all c.args.self.now.names) (λ ts. ⊤) c.loop-self.self c.loop-self.height c.loop-self.invariant (sym c.loop-self-test.ensures) tt

-- ---- enumerators

pub enumerators-returns-in_err-height : goal.enumerators-returns-in_err-height
unfolding reading.rows_in
enumerators-returns-in_err-height t c =
    let d = c.args.budget in
    gives_row_stop itself_high _ _ _ _ _ _ _ _ c.in_err-height.field-0.0 c.from_residual.ensures (
    braces_first_stops d (below d) (reading.enumerator_in d (below d)) (length c.args.self.now.rest.now) c.args.self.now.names c.args.self.now.rest.now
    _ c.in_err-height.field-0.0 c.in_err-height.ensures)

pub enumerators-loop-self-init : goal.enumerators-loop-self-init
unfolding reading.rows_in
enumerators-loop-self-init t c =
    let d = c.args.budget in
    in_braces_first d (below d) (reading.enumerator_in d (below d)) _ c.args.self.now.names (stack_of c.args.self.now.trees) d (length c.args.self.now.rest.now)
    c.args.self.now.rest.now refl _ c.enumerator.new.self c.in_ok-height.field-0 c.in_ok-height.ensures (omega arith)

pub enumerators-returns-then-at_mark : goal.enumerators-returns-then-at_mark
enumerators-returns-then-at_mark t c =
    let d = c.args.budget in
    in_braces_end_comma d (below d) (reading.enumerator_in d (below d)) _ c.args.self.now.names (stack_of c.args.self.now.trees) d (length c.args.self.now.rest.now)
    c.loop-self.self c.loop-self.height c.loop-self.invariant (sym c.loop-self-test.ensures) c.advance.new.self c.advance.ensures.kept c.advance.ensures.rest
    (sym c.at_mark-in-loop-self.ensures ∙ c.if-at_mark.true)

pub enumerators-returns-in_err-enumerator : goal.enumerators-returns-in_err-enumerator
enumerators-returns-in_err-enumerator t c =
    let d = c.args.budget in
    gives_row_stop itself_high _ _ _ _ _ _ _ _ c.in_err-enumerator.field-0.0 c.from_residual-in_err-enumerator.ensures (
    in_braces_stops d (below d) (reading.enumerator_in d (below d)) _ c.args.self.now.names (stack_of c.args.self.now.trees) d (length c.args.self.now.rest.now)
    c.loop-self.self c.loop-self.height c.loop-self.invariant (sym c.loop-self-test.ensures) c.advance.new.self c.advance.ensures.kept c.advance.ensures.rest
    (sym c.at_mark-in-loop-self.ensures ∙ c.if-at_mark.false) _ c.in_err-enumerator.field-0.0 c.in_err-enumerator.ensures)

pub enumerators-loop-self-preserved : goal.enumerators-loop-self-preserved
enumerators-loop-self-preserved t c =
    let d = c.args.budget in
    in_braces_next d (below d) (reading.enumerator_in d (below d)) _ c.args.self.now.names (stack_of c.args.self.now.trees) d (length c.args.self.now.rest.now)
    c.loop-self.self c.loop-self.height c.loop-self.invariant (sym c.loop-self-test.ensures) c.advance.new.self c.advance.ensures.kept c.advance.ensures.rest
    (sym c.at_mark-in-loop-self.ensures ∙ c.if-at_mark.false) _ c.enumerator-in-loop-self.new.self c.in_ok-enumerator.field-0 c.in_ok-enumerator.ensures _ (search rules)

pub enumerators-returns : goal.enumerators-returns
enumerators-returns t c =
    let d = c.args.budget in
    in_braces_end d (below d) (reading.enumerator_in d (below d)) _ c.args.self.now.names (stack_of c.args.self.now.trees) d (length c.args.self.now.rest.now)
    c.loop-self.self c.loop-self.height c.loop-self.invariant (sym c.loop-self-test.ensures)

pub enumerator-returns-in_err-name : goal.enumerator-returns-in_err-name
enumerator-returns-in_err-name t c =
    let d = c.args.budget in
    gives_stop itself nothing_more _ _ _ _ _ _ _ c.in_err-name.field-0.0 c.from_residual.ensures (
    stops_same _ _ _ c.in_err-name.field-0.0 (enumerator_expected d (below d) c.args.self.now.names c.args.self.now.rest.now)
    (balked_name c.args.self.now c.expect_identifier.new.self _ c.in_err-name.field-0.0 c.in_err-name.ensures))

pub enumerator-returns-in_err-within : goal.enumerator-returns-in_err-within
enumerator-returns-in_err-within t c =
    let d = c.args.budget in
    gives_stop itself nothing_more _ _ _ _ _ _ _ c.in_err-within.field-0.0 c.from_residual-in_err-within.ensures (
    whole_barred _ 0 d 0 _ _ (enumerator_expected d (below d) c.args.self.now.names c.args.self.now.rest.now ∙ c.in_ok-name.ensures.goes_on _)
    _ c.in_err-within.field-0.0 c.in_err-within.ensures refl)

pub enumerator-returns-in_err-part : goal.enumerator-returns-in_err-part
enumerator-returns-in_err-part t c =
    let d = c.args.budget in
    gives_stop itself nothing_more _ _ _ _ _ _ _ c.in_err-part.field-0.0 c.from_residual-in_err-part.ensures (
    stops_same _ _ _ c.in_err-part.field-0.0
    (enumerator_named d (below d) c.args.self.now c.expect_identifier.new.self c.in_ok-name.name.now c.start-start.result c.in_ok-within.field-0 c.in_ok-name.ensures c.start-start.ensures c.in_ok-within.ensures)
    c.in_err-part.ensures)

pub enumerator-returns : goal.enumerator-returns
enumerator-returns t c =
    let d = c.args.budget in
    let part = c.in_ok-part.ensures in
    let kept = c.in_ok-name.ensures.kept in
    record {
      tree = part.tree;
      found_is = enumerator_named d (below d) c.args.self.now c.expect_identifier.new.self c.in_ok-name.name.now c.start-start.result c.in_ok-within.field-0 c.in_ok-name.ensures c.start-start.ensures c.in_ok-within.ensures
          ∙ part.found_is;
      read = record {
        names_are = c.in_ok-add.ensures.ok
            ∙ ap (λ (n : Names). add n (entry c.in_ok-name.name.now false)) (part.read.names_are ∙ ap (λ (n : Names). add n (entries_behind false part.tree.kids)) kept.names_are)
            ∙ after_enumerator c.args.self.now.names part.tree c.in_ok-name.name.now part.said.kind_is part.said.text_is;
        pushed = subst (λ stack. IsPushed part.tree stack (stack_of c.enumerator_value.new.self.trees) c.in_ok-part.part) (ap stack_of kept.trees_are) part.read.pushed;
      };
      said = tt;
      low = part.low;
      shorter = let a = part.shorter in let b = c.in_ok-name.ensures.shorter in omega (arith, a, b);
    }

pub enumerator_value-returns-then-not-at_mark : goal.enumerator_value-returns-then-not-at_mark
enumerator_value-returns-then-not-at_mark t c =
    let d = c.args.budget in
    let names = c.args.self.now.names in
    let name = c.args.name.now in
    made (SaysEnumerator name) _ (λ t. add names (entries_behind false t.kids)) (text_node kind.Enumer name c.args.start none) (stack_of c.args.self.now.trees) d (suc (length c.args.self.now.rest.now)) _ c.leaf.result
    c.leaf.ensures.tree (value_nothing d (below d) name c.args.start names c.args.self.now.rest.now (sym c.at_mark.ensures ∙ c.if-not-at_mark.true)) (sym (add_nothing names))
    (record { kind_is = refl; text_is = refl }) (let f = c.requires in omega (arith, f)) (omega arith)

pub enumerator_value-returns-in_err-lower : goal.enumerator_value-returns-in_err-lower
enumerator_value-returns-in_err-lower t c =
    let d = c.args.budget in
    gives_stop itself _ _ _ _ _ _ _ _ c.in_err-lower.field-0.0 c.from_residual.ensures (
    whole_barred _ 1 d 0 _ _ (value_shape d (below d) c.args.name.now c.args.start c.args.self.now.names c.args.self.now.rest.now (sym c.at_mark.ensures ∙ c.if-not-at_mark.false))
    _ c.in_err-lower.field-0.0 c.in_err-lower.ensures.lower c.in_err-lower.ensures.rest)

pub enumerator_value-returns-in_err-value : goal.enumerator_value-returns-in_err-value
unfolding reading.goal_in
enumerator_value-returns-in_err-value t c =
    let d = c.args.budget in
    let names = c.args.self.now.names in
    let entering = c.in_ok-lower.ensures in
    gives_stop itself _ _ _ _ _ _ _ _ c.in_err-value.field-0.0 c.from_residual-in_err-value.ensures (
    part_stops _ 1 d c.in_ok-lower.lower entering.lower reading.conditional names c.enter.new.self.names (behind_one c.args.self.now.rest.now) c.enter.new.self.rest.now _
    (whole_entered _ 1 d c.in_ok-lower.lower _ _ (value_shape d (below d) c.args.name.now c.args.start names c.args.self.now.rest.now (sym c.at_mark.ensures ∙ c.if-not-at_mark.false)) entering.lower)
    entering.kept.names_are entering.rest _ c.in_err-value.field-0.0 c.in_err-value.ensures)

pub enumerator_value-returns : goal.enumerator_value-returns
unfolding reading.goal_in
enumerator_value-returns t c =
    let d = c.args.budget in
    let names = c.args.self.now.names in
    let name = c.args.name.now in
    let entering = c.in_ok-lower.ensures in
    let value = read_from _ _ _ _ c.args.self.now c.enter.new.self c.conditional.new.self c.in_ok-value.value entering.kept c.in_ok-value.ensures in
    made (SaysEnumerator name) _ (λ t. add names (entries_behind false t.kids)) (text_node kind.Enumer name c.args.start (one value.tree)) (stack_of c.args.self.now.trees) d (suc (length c.args.self.now.rest.now))
    _ c.above.result
    (c.above.ensures.tree value.tree (stack_of c.args.self.now.trees) value.read.pushed)
    (part_found _ 1 d c.in_ok-lower.lower entering.lower reading.conditional names c.enter.new.self.names (behind_one c.args.self.now.rest.now) c.enter.new.self.rest.now _
    (whole_entered _ 1 d c.in_ok-lower.lower _ _ (value_shape d (below d) name c.args.start names c.args.self.now.rest.now (sym c.at_mark.ensures ∙ c.if-not-at_mark.false)) entering.lower)
    entering.kept.names_are entering.rest value.tree _ value.found_is)
    value.read.names_are (record { kind_is = refl; text_is = refl })
    (let h = value.read.pushed.height_is in let l = value.low in let n = entering.lower.next in omega (arith, h, l, n))
    (let s = value.shorter in let a = behind_one_shorter c.args.self.now.rest.now in let b = ap length entering.rest in omega (arith, s, a, b))

-- ---- names of types

pub type_name-returns-in_err-specs : goal.type_name-returns-in_err-specs
type_name-returns-in_err-specs t c =
    let d = c.args.budget in
    gives_stop itself nothing_more _ _ _ _ _ _ _ c.in_err-specs.field-0.0 c.from_residual.ensures (
    front_stops d c.next_lower.result (c.next_lower.ensures.none, c.next_lower.ensures.lower, c.next_lower.ensures.less) _ c.args.self.now.names c.args.self.now.rest.now _
    (type_name_shape d c.args.self.now.names c.args.self.now.rest.now) _ c.in_err-specs.field-0.0 c.in_err-specs.ensures)

pub type_name-returns-in_err-declarator : goal.type_name-returns-in_err-declarator
unfolding reading.goal_in
type_name-returns-in_err-declarator t c =
    let d = c.args.budget in
    gives_stop itself nothing_more _ _ _ _ _ _ _ c.in_err-declarator.field-0.0 c.from_residual-in_err-declarator.ensures (
    behind_stops kind.TypeName (reading.declared reading.unnamed) d c.next_lower.result c.next_lower-2.result (c.next_lower.ensures.none, c.next_lower.ensures.lower, c.next_lower.ensures.less)
    (c.next_lower-2.ensures.none, c.next_lower-2.ensures.lower, c.next_lower-2.ensures.less) _ c.args.self.now.names c.args.self.now.rest.now (type_name_shape d c.args.self.now.names c.args.self.now.rest.now)
    (after c.args.self.now.names) _ _ _ c.specs.new.self c.in_ok-specs.field-0.part c.in_ok-specs.ensures _ c.in_err-declarator.field-0.0 c.in_err-declarator.ensures)

pub type_name-returns : goal.type_name-returns
unfolding reading.goal_in
type_name-returns t c =
    let d = c.args.budget in
    let names = c.args.self.now.names in
    let first = c.in_ok-specs.ensures in
    let second = c.in_ok-declarator.ensures in
    both_made kind.TypeName (reading.declared reading.unnamed) d c.next_lower.result c.next_lower-2.result (c.next_lower.ensures.none, c.next_lower.ensures.lower, c.next_lower.ensures.less)
    (c.next_lower-2.ensures.none, c.next_lower-2.ensures.lower, c.next_lower-2.ensures.less) _ names c.args.self.now.rest.now (type_name_shape d names c.args.self.now.rest.now)
    (after names) _ (length c.args.self.now.rest.now) (stack_of c.args.self.now.trees) c.specs.new.self c.in_ok-specs.field-0.part first
    second.tree c.declared.new.self _ c.in_ok-declarator.field-0.part c.above_two.result second.found_is second.read.pushed second.low
    (let a = first.shorter in let b = second.shorter in omega (arith, a, b)) refl
    (second.read.names_are ∙ ap (λ (n : Names). after n second.tree) first.read.names_are ∙ sym (after_two names kind.TypeName [] c.in_ok-specs.field-0.part.start first.tree second.tree refl))
    c.above_two.ensures.tree (λ t. ⊤) tt

-- ---- declarators

pub declared-returns-in_default : goal.declared-returns-in_default
declared-returns-in_default t c = gives_same (λ d. d.part) (SaysDeclarator c.undeclared.new.self) _ _ _ _ _ _ _ c.undeclared.result
    (declared_nothing c.args.budget (below c.args.budget) (mode_of c.args.mode) c.args.self.now.names c.args.self.now.rest.now (search rules)) c.undeclared.ensures

pub declared-returns-then-at_mark : goal.declared-returns-then-at_mark
declared-returns-then-at_mark t c = gives_more (λ d. d.part) (SaysDeclarator c.pointer.new.self) _ _ _ _ _ _ _ _ _ c.pointer.result
    (declared_star c.args.budget (below c.args.budget) (mode_of c.args.mode) c.args.self.now.names c.args.self.now.rest.now c.in-Some.token.now c.in-Some.ensures.some (sym c.at_mark.ensures ∙ c.if-at_mark.true))
    (omega arith) (named_fewer c.args.mode (length c.args.self.now.rest.now)) c.pointer.ensures

pub declared-returns-then-at_mark-2 : goal.declared-returns-then-at_mark-2
declared-returns-then-at_mark-2 t c = gives_more (λ d. d.part) (SaysDeclarator c.enclosed.new.self) _ _ _ _ _ _ _ _ _ c.enclosed.result
    (declared_parenthesis c.args.budget (below c.args.budget) (mode_of c.args.mode) c.args.self.now.names c.args.self.now.rest.now c.in-Some.token.now c.in-Some.ensures.some (sym c.at_mark-2.ensures ∙ c.if-at_mark-2.true))
    (omega arith) (named_fewer c.args.mode (length c.args.self.now.rest.now)) c.enclosed.ensures

pub declared-returns-in-Word : goal.declared-returns-in-Word
declared-returns-in-Word t c = gives_more (λ d. d.part) (SaysDeclarator c.named.new.self) _ _ _ _ _ _ _ _ _ c.named.result
    (declared_name c.args.budget (below c.args.budget) (mode_of c.args.mode) c.args.self.now.names c.args.self.now.rest.now c.in-Some.token.now c.in-Some.ensures.some
    _ c.as_slice-in-Word.result.now c.in-Word.is c.as_slice-in-Word.ensures
    (ap is_identifier (c.as_slice-in-Word.ensures ∙ sym c.as_slice.ensures) ∙ sym c.is_identifier.ensures ∙ c.if-is_identifier.true) (sym c.has_name.ensures ∙ c.if-has_name.true))
    (omega arith) (named_fewer c.args.mode (length c.args.self.now.rest.now)) c.named.ensures

pub declared-returns-in_default-kind : goal.declared-returns-in_default-kind
declared-returns-in_default-kind t c =
    let named = reading.has_name (mode_of c.args.mode) in
    let unnamed : (text : List ℕ) → c.in-Some.token.now.kind ≡ token.Word text → (is_identifier text && named) ≡ false
    = elim c.in_default-kind.branch [
      | declared-in_default-kind-via-in-Word+then-has_name+else-is_identifier w ↦ λ text e.
          no_name_first (is_identifier text) named (ap is_identifier (same_word text w.in-Word.name (sym e ∙ w.in-Word.is) ∙ sym w.as_slice.ensures) ∙ sym w.is_identifier.ensures ∙ w.if-is_identifier.false)
      | declared-in_default-kind-via-in-Word+else-has_name w ↦ λ text e. no_name_allowed (is_identifier text) named (sym w.has_name.ensures ∙ w.if-has_name.false)
      | declared-in_default-kind-via-in_default-kind w ↦ λ text e. absurd (w.in_default-kind.not-Word text e)
    ] in
    gives_same (λ d. d.part) (SaysDeclarator c.undeclared-in_default-kind.new.self) _ _ _ _ _ _ _ c.undeclared-in_default-kind.result
    (declared_other c.args.budget (below c.args.budget) (mode_of c.args.mode) c.args.self.now.names c.args.self.now.rest.now c.in-Some.token.now c.in-Some.ensures.some
    (sym c.at_mark.ensures ∙ c.if-at_mark.false) (sym c.at_mark-2.ensures ∙ c.if-at_mark-2.false) unnamed)
    c.undeclared-in_default-kind.ensures

pub pointer-returns-in_err-lower : goal.pointer-returns-in_err-lower
pointer-returns-in_err-lower t c = gives_stop (λ d. d.part) (SaysDeclarator c.enter.new.self) _ _ _ _ _ _ _ c.in_err-lower.field-0.0 c.from_residual.ensures (
    barred 1 c.args.budget _ _ _ c.in_err-lower.field-0.0 c.in_err-lower.ensures.lower c.in_err-lower.ensures.rest)

pub pointer-returns-in_err-inner : goal.pointer-returns-in_err-inner
unfolding reading.goal_in
pointer-returns-in_err-inner t c =
    let d = c.args.budget in
    let entering = c.in_ok-lower.ensures in
    gives_stop (λ d. d.part) (SaysDeclarator c.declared.new.self) _ _ _ _ _ _ _ c.in_err-inner.field-0.0 c.from_residual-in_err-inner.ensures (
    part_stops _ 1 d c.in_ok-lower.lower entering.lower (reading.declared (mode_of c.args.mode)) c.args.self.now.names c.skip_const.new.self.names _ c.skip_const.new.self.rest.now _
    (entered 1 d c.in_ok-lower.lower _ _ entering.lower) (c.skip_const.ensures.kept.names_are ∙ entering.kept.names_are) (c.skip_const.ensures.rest ∙ ap behind_const entering.rest)
    _ c.in_err-inner.field-0.0 c.in_err-inner.ensures)

pub pointer-returns : goal.pointer-returns
unfolding reading.goal_in
pointer-returns t c =
    let d = c.args.budget in
    let names = c.args.self.now.names in
    let entering = c.in_ok-lower.ensures in
    let skipped = c.skip_const.ensures in
    let inner = read_from _ _ _ _ c.args.self.now c.skip_const.new.self c.declared.new.self c.in_ok-inner.inner.part (keeps_then c.args.self.now c.enter.new.self c.skip_const.new.self entering.kept skipped.kept)
    c.in_ok-inner.ensures in
    let x = inner.tree in
    declarator_made _ (after names) (plain_node kind.Pointer c.args.start (one x)) (stack_of c.args.self.now.trees) d (length c.args.self.now.rest.now) _ c.pointer.result
    (c.pointer.ensures.tree x (stack_of c.args.self.now.trees) inner.read.pushed inner.said.itself_is)
    (part_found _ 1 d c.in_ok-lower.lower entering.lower (reading.declared (mode_of c.args.mode)) names c.skip_const.new.self.names _ c.skip_const.new.self.rest.now _
    (entered 1 d c.in_ok-lower.lower _ _ entering.lower) (skipped.kept.names_are ∙ entering.kept.names_are) (skipped.rest ∙ ap behind_const entering.rest) x _ inner.found_is)
    (inner.read.names_are ∙ sym (after_one names kind.Pointer [] c.args.start x refl)) inner.said.parameters_are
    (let h = inner.read.pushed.height_is in let l = inner.low in let n = entering.lower.next in omega (arith, h, l, n))
    (shorter_pointer c.args.mode c.args.self.now.rest.now c.enter.new.self.rest.now c.skip_const.new.self.rest.now _ entering.rest skipped.rest inner.shorter c.requires)

pub enclosed-returns-in_err-lower : goal.enclosed-returns-in_err-lower
enclosed-returns-in_err-lower t c = gives_stop (λ d. d.part) (SaysDeclarator c.enter.new.self) _ _ _ _ _ _ _ c.in_err-lower.field-0.0 c.from_residual.ensures (
    barred 1 c.args.budget _ _ _ c.in_err-lower.field-0.0 c.in_err-lower.ensures.lower c.in_err-lower.ensures.rest)

pub enclosed-returns-in_err-inner : goal.enclosed-returns-in_err-inner
unfolding reading.goal_in
enclosed-returns-in_err-inner t c =
    let d = c.args.budget in
    let entering = c.in_ok-lower.ensures in
    gives_stop (λ d. d.part) (SaysDeclarator c.declared.new.self) _ _ _ _ _ _ _ c.in_err-inner.field-0.0 c.from_residual-in_err-inner.ensures (
    part_stops _ 1 d c.in_ok-lower.lower entering.lower (reading.declared (mode_of c.args.mode)) c.args.self.now.names c.enter.new.self.names _ c.enter.new.self.rest.now _
    (entered 1 d c.in_ok-lower.lower _ _ entering.lower) entering.kept.names_are entering.rest _ c.in_err-inner.field-0.0 c.in_err-inner.ensures)

pub enclosed-returns-then-is_absent : goal.enclosed-returns-then-is_absent
unfolding reading.goal_in
enclosed-returns-then-is_absent t c =
    let d = c.args.budget in
    let entering = c.in_ok-lower.ensures in
    let inner = c.in_ok-inner.ensures in
    part_found _ 1 d c.in_ok-lower.lower entering.lower (reading.declared (mode_of c.args.mode)) c.args.self.now.names c.enter.new.self.names _ c.enter.new.self.rest.now _
    (entered 1 d c.in_ok-lower.lower _ _ entering.lower) entering.kept.names_are entering.rest inner.tree _ inner.found_is
    ∙ chosen _ _ _ (ap reading.is_absent_by (sym inner.read.pushed.kind_is) ∙ sym c.is_absent.ensures ∙ c.if-is_absent.true)

pub enclosed-returns-in_err-expect : goal.enclosed-returns-in_err-expect
unfolding reading.goal_in
enclosed-returns-in_err-expect t c =
    let d = c.args.budget in
    let entering = c.in_ok-lower.ensures in
    let inner = c.in_ok-inner.ensures in
    gives_stop (λ d. d.part) (SaysDeclarator c.expect.new.self) _ _ _ _ _ _ _ c.in_err-expect.field-0.0 c.from_residual-in_err-expect.ensures (
    stops_same _ _ _ c.in_err-expect.field-0.0
    (part_found _ 1 d c.in_ok-lower.lower entering.lower (reading.declared (mode_of c.args.mode)) c.args.self.now.names c.enter.new.self.names _ c.enter.new.self.rest.now _
    (entered 1 d c.in_ok-lower.lower _ _ entering.lower) entering.kept.names_are entering.rest inner.tree _ inner.found_is
    ∙ not_chosen _ _ _ (ap reading.is_absent_by (sym inner.read.pushed.kind_is) ∙ sym c.is_absent.ensures ∙ c.if-is_absent.false))
    (balked RightParenthesis c.declared.new.self c.expect.new.self _ c.in_err-expect.field-0.0 c.in_err-expect.ensures))

pub enclosed-returns : goal.enclosed-returns
unfolding reading.goal_in
enclosed-returns t c =
    let d = c.args.budget in
    let names = c.args.self.now.names in
    let under = stack_of c.args.self.now.trees in
    let entering = c.in_ok-lower.ensures in
    let passing = c.in_ok-expect.ensures in
    let inner = read_from _ _ _ _ c.args.self.now c.enter.new.self c.declared.new.self c.in_ok-inner.inner.part entering.kept c.in_ok-inner.ensures in
    let x = inner.tree in
    let node = plain_node kind.Paren c.args.start (one x) in
    let made = c.in_ok-enclosed.ensures.tree x under (pushed_on x under c.in_ok-inner.inner.part c.declared.new.self c.expect.new.self passing.kept inner.read.pushed) inner.said.itself_is in
    let declared = c.declared_suffixes.ensures names node under (record {
      read = record { names_are = passing.kept.names_are ∙ inner.read.names_are ∙ sym (after_one names kind.Paren [] c.args.start x refl); pushed = made.0 };
      said = record { itself_is = made.1; parameters_are = parameters_on c.declared.new.self c.expect.new.self x node passing.kept inner.said.parameters_are refl };
    }) in
    gives_more (λ d. d.part) (SaysDeclarator c.declared_suffixes.new.self) _ _ (after names) under d d _ (length c.args.self.now.rest.now) c.declared_suffixes.new.self c.declared_suffixes.result
    (part_found _ 1 d c.in_ok-lower.lower entering.lower (reading.declared (mode_of c.args.mode)) names c.enter.new.self.names _ c.enter.new.self.rest.now _
    (entered 1 d c.in_ok-lower.lower _ _ entering.lower) entering.kept.names_are entering.rest x _ inner.found_is
    ∙ not_chosen _ _ _ (ap reading.is_absent_by (sym inner.read.pushed.kind_is) ∙ sym c.is_absent.ensures ∙ c.if-is_absent.false)
    ∙ passed RightParenthesis c.declared.new.self c.expect.new.self _ passing)
    (omega arith)
    (let s = inner.shorter in let b = behind_fewer c.args.mode (length c.enter.new.self.rest.now) in let a = passing.shorter in
    let e = some_shorter c.args.self.now.rest.now c.enter.new.self.rest.now entering.rest c.requires in omega (arith, s, b, a, e))
    declared

pub named-returns-in_err-enter : goal.named-returns-in_err-enter
named-returns-in_err-enter t c = gives_stop (λ d. d.part) (SaysDeclarator c.enter.new.self) _ _ _ _ _ _ _ c.in_err-enter.field-0.0 c.from_residual.ensures (
    barred 0 c.args.budget _ _ _ c.in_err-enter.field-0.0 c.in_err-enter.ensures.lower c.in_err-enter.ensures.rest)

pub named-returns : goal.named-returns
named-returns t c =
    let d = c.args.budget in
    let names = c.args.self.now.names in
    let under = stack_of c.args.self.now.trees in
    let text = c.args.name.now in
    let entering = c.in_ok-enter.ensures in
    let node = text_node kind.Ident text c.args.start none in
    let made = c.in_ok-named.ensures.tree in
    let declared = c.declared_suffixes.ensures names node under (record {
      read = record {
        names_are = entering.kept.names_are ∙ sym (after_none names kind.Ident text c.args.start refl);
        pushed = pushed_leaf node c.args.self.now c.enter.new.self _ (Ok c.in_ok-named.named.part) entering.kept made.0;
      };
      said = record { itself_is = made.1; parameters_are = ap (map entry_of) c.clear.ensures.items };
    }) in
    gives_more (λ d. d.part) (SaysDeclarator c.declared_suffixes.new.self) _ _ (after names) under d d _ (length c.args.self.now.rest.now) c.declared_suffixes.new.self c.declared_suffixes.result
    (entered 0 d c.in_ok-enter.field-0 _ _ entering.lower ∙ ap (suffixes_at d (below d) names node) (sym entering.rest))
    (omega arith) (some_shorter c.args.self.now.rest.now c.enter.new.self.rest.now entering.rest c.requires.1.1) declared

pub undeclared-returns-then-needs_name : goal.undeclared-returns-then-needs_name
undeclared-returns-then-needs_name t c =
    name_needed c.args.budget (below c.args.budget) (mode_of c.args.mode) c.args.self.now.names c.args.self.now.rest.now (sym c.needs_name.ensures ∙ c.if-needs_name.true)

pub undeclared-returns-in_err-within : goal.undeclared-returns-in_err-within
undeclared-returns-in_err-within t c = gives_stop (λ d. d.part) (SaysDeclarator c.args.self.now) _ _ _ _ _ _ _ c.in_err-within.field-0.0 c.from_residual.ensures (
    subst (Stops _ c.args.self.now.rest.now) (sym c.in_err-within.ensures.0)
    (undeclared_deep c.args.budget (below c.args.budget) (mode_of c.args.mode) c.args.self.now.names c.args.self.now.rest.now (sym c.needs_name.ensures ∙ c.if-needs_name.false) c.in_err-within.ensures.1))

pub undeclared-returns : goal.undeclared-returns
undeclared-returns t c =
    let d = c.args.budget in
    let names = c.args.self.now.names in
    let under = stack_of c.args.self.now.trees in
    let unnamed = sym c.needs_name.ensures ∙ c.if-needs_name.false in
    let node = plain_node kind.NoName c.start-start.result none in
    let made = c.in_ok-absent.ensures.tree in
    let declared = c.declared_suffixes.ensures names node under (record {
      read = record { names_are = sym (after_none names kind.NoName [] c.start-start.result refl); pushed = made.0 };
      said = record { itself_is = made.1; parameters_are = ap (map entry_of) c.clear.ensures.items };
    }) in
    gives_more (λ d. d.part) (SaysDeclarator c.declared_suffixes.new.self) _ _ (after names) under d d _ _ c.declared_suffixes.new.self c.declared_suffixes.result
    (undeclared_read d (below d) (mode_of c.args.mode) names c.args.self.now.rest.now unnamed c.in_ok-within.ensures.fits
    ∙ ap (λ at. suffixes_at d (below d) names (plain_node kind.NoName at none) c.args.self.now.rest.now) (sym c.start-start.ensures))
    (omega arith) (unnamed_fewer c.args.mode (length c.args.self.now.rest.now) unnamed) declared

-- ---- suffixes

pub declared_suffixes-returns-in_err-declarator : goal.declared_suffixes-returns-in_err-declarator
declared_suffixes-returns-in_err-declarator t c = λ names x under declared.
    let d = c.args.budget in
    let so_far = c.loop-self.invariant names x under declared in
    gives_stop (λ d. d.part) (SaysDeclarator c.declared_suffix.new.self) _ _ _ _ _ _ _ c.in_err-declarator.field-0.0 c.from_residual.ensures (
    reading_suffixes_stops d (below d) _ names under (suc (length c.args.self.now.rest.now)) c.loop-self.self c.loop-self.declarator so_far
    (sym c.begins_declared_suffix.ensures ∙ c.loop-self-test.true)
    _ c.in_err-declarator.field-0.0 (c.in_err-declarator.ensures.gives names so_far.tree under so_far.is_declared))

pub declared_suffixes-loop-self-preserved : goal.declared_suffixes-loop-self-preserved
declared_suffixes-loop-self-preserved t c = λ names x under declared.
    let d = c.args.budget in
    let so_far = c.loop-self.invariant names x under declared in
    reading_suffixes_next d (below d) _ names under (suc (length c.args.self.now.rest.now)) c.loop-self.self c.loop-self.declarator so_far
    (sym c.begins_declared_suffix.ensures ∙ c.loop-self-test.true)
    c.declared_suffix.new.self c.in_ok-declarator.declarator (c.in_ok-declarator.ensures.gives names so_far.tree under so_far.is_declared)

pub declared_suffixes-returns : goal.declared_suffixes-returns
declared_suffixes-returns t c = λ names x under declared.
    let d = c.args.budget in
    reading_suffixes_end d (below d) _ names under (suc (length c.args.self.now.rest.now)) c.loop-self.self c.loop-self.declarator (c.loop-self.invariant names x under declared)
    (sym c.begins_declared_suffix.ensures ∙ c.loop-self-test.false)

pub declared_suffix-returns-in_err-lower-clause-gives : goal.declared_suffix-returns-in_err-lower-clause-gives
declared_suffix-returns-in_err-lower-clause-gives t c = λ names x under declared.
    let inner = c.args.inner in
    gives_stop (λ d. d.part) (SaysSuffixed c.enter.new.self x) _ _ _ _ _ _ _ c.in_err-lower.field-0.0 c.from_residual.ensures (
    declared_suffix_deep c.args.budget (below c.args.budget) names x c.args.self.now.rest.now inner.is_named declared.said.itself_is.named_is c.requires inner.part.height declared.read.pushed.height_is
    _ c.in_err-lower.field-0.0 c.in_err-lower.ensures.lower c.in_err-lower.ensures.rest)

pub declared_suffix-returns-then-is_array-clause-gives : goal.declared_suffix-returns-then-is_array-clause-gives
declared_suffix-returns-then-is_array-clause-gives t c = λ names x under declared.
    let d = c.args.budget in
    let inner = c.args.inner in
    let entering = c.in_ok-lower.ensures in
    let mid = c.enter.new.self in
    gives_more (λ d. d.part) (SaysSuffixed c.array.new.self x) _ _ (after names) under (suc c.in_ok-lower.lower) d (length mid.rest.now) (length c.args.self.now.rest.now) c.array.new.self c.array.result
    (suffix_array d (below d) names x c.args.self.now.rest.now inner.is_named declared.said.itself_is.named_is c.requires inner.part.height declared.read.pushed.height_is
    c.in_ok-lower.lower entering.lower mid.rest.now entering.rest (sym c.at_mark-is_array.ensures ∙ c.if-is_array.true)
    ∙ ap (λ r. array_of r names x mid.rest.now) entering.lower.level_is)
    (let n = entering.lower.next in omega (arith, n)) (still_shorter _ c.args.self.now.rest.now mid.rest.now entering.rest (omega arith))
    (c.array.ensures.gives names x under (declared_on names x under c.args.self.now mid inner entering.kept declared))

pub declared_suffix-returns-clause-gives : goal.declared_suffix-returns-clause-gives
declared_suffix-returns-clause-gives t c = λ names x under declared.
    let d = c.args.budget in
    let inner = c.args.inner in
    let entering = c.in_ok-lower.ensures in
    let mid = c.enter.new.self in
    gives_more (λ d. d.part) (SaysSuffixed c.takes.new.self x) _ _ (after names) under d d (length mid.rest.now) (length c.args.self.now.rest.now) c.takes.new.self c.takes.result
    (suffix_takes d (below d) names x c.args.self.now.rest.now inner.is_named declared.said.itself_is.named_is c.requires inner.part.height declared.read.pushed.height_is
    c.in_ok-lower.lower entering.lower mid.rest.now entering.rest (sym c.at_mark-is_array.ensures ∙ c.if-is_array.false))
    (omega arith) (still_shorter _ c.args.self.now.rest.now mid.rest.now entering.rest (omega arith))
    (c.takes.ensures.gives names x under (declared_on names x under c.args.self.now mid inner entering.kept declared))

-- ---- arrays

pub array-returns-in_err-height-clause-gives : goal.array-returns-in_err-height-clause-gives
array-returns-in_err-height-clause-gives t c = λ names x under declared.
    gives_stop (λ d. d.part) (SaysSuffixed c.optional_length.new.self x) _ _ _ _ _ _ _ c.in_err-height.field-0.0 c.from_residual.ensures (
    stops_before _ _ _ _ c.in_err-height.field-0.0 (array_shape c.args.lower names c.args.self.now.names x c.args.self.now.rest.now declared.read.names_are (declared.said.itself_is.silent_is names))
    c.in_err-height.ensures)

pub array-returns-in_err-expect-clause-gives : goal.array-returns-in_err-expect-clause-gives
array-returns-in_err-expect-clause-gives t c = λ names x under declared.
    let row = c.in_ok-height.ensures in
    gives_stop (λ d. d.part) (SaysSuffixed c.expect.new.self x) _ _ _ _ _ _ _ c.in_err-expect.field-0.0 c.from_residual-in_err-expect.ensures (
    stops_same _ _ _ c.in_err-expect.field-0.0
    (found_before _ _ _ (forest_of row.trees) _
    (array_shape c.args.lower names c.args.self.now.names x c.args.self.now.rest.now declared.read.names_are (declared.said.itself_is.silent_is names)) row.found_is)
    (balked RightBracket c.optional_length.new.self c.expect.new.self _ c.in_err-expect.field-0.0 c.in_err-expect.ensures))

pub array-returns-clause-gives : goal.array-returns-clause-gives
array-returns-clause-gives t c = λ names x under declared.
    let old = c.args.self.now in
    let inner = c.args.inner in
    let row = c.in_ok-height.ensures in
    let passing = c.in_ok-expect.ensures in
    let node = plain_node kind.ArrayOf (start x) (x then forest_of row.trees) in
    suffix_made _ (after names) x node under (suc c.args.lower) (length old.rest.now) _ c.suffixed.result
    (c.suffixed.ensures.tree x row.trees under (stack_of old.trees) c.len-mark.ensures declared.read.pushed declared.said.itself_is
    (trees_on row.trees (stack_of old.trees) c.in_ok-height.height c.optional_length.new.self c.expect.new.self passing.kept row.read.pushed))
    (found_before _ _ _ (forest_of row.trees) _ (array_shape c.args.lower names old.names x old.rest.now declared.read.names_are (declared.said.itself_is.silent_is names)) row.found_is
    ∙ passed RightBracket c.optional_length.new.self c.expect.new.self _ passing)
    (passing.kept.names_are ∙ row.read.names_are ∙ ap (λ (m : Names). behind_all m (forest_of row.trees)) declared.read.names_are
    ∙ sym (after_row names kind.ArrayOf [] (start x) x (forest_of row.trees) refl))
    (ap (λ parameters. map entry_of parameters.items) c.replace-parameters.ensures.value ∙ declared.said.parameters_are)
    (omega arith) (let h = declared.read.pushed.height_is in let f = c.requires.fits in let g = row.read.pushed.height_is in let l = row.low in omega (arith, h, f, g, l))
    (let a = row.shorter in let b = passing.shorter in omega (arith, a, b))

pub optional_length-returns-then-at_mark : goal.optional_length-returns-then-at_mark
optional_length-returns-then-at_mark t c = none_read _ (behind_all c.args.self.now.names) c.args.budget (suc (length c.args.self.now.rest.now)) c.args.self.now (stack_of c.args.self.now.trees)
    (no_length c.args.budget (below c.args.budget) c.args.self.now.names c.args.self.now.rest.now (sym c.at_mark.ensures ∙ c.if-at_mark.true)) (sym (add_nothing c.args.self.now.names)) refl (omega arith)

pub optional_length-returns-in_err-conditional : goal.optional_length-returns-in_err-conditional
optional_length-returns-in_err-conditional t c = gives_row_stop itself_high _ _ _ _ _ _ _ _ c.in_err-conditional.field-0.0 c.from_residual.ensures (
    stops_before _ _ _ _ c.in_err-conditional.field-0.0
    (some_length c.args.budget (below c.args.budget) c.args.self.now.names c.args.self.now.rest.now (sym c.at_mark.ensures ∙ c.if-at_mark.false)) c.in_err-conditional.ensures)

pub optional_length-returns : goal.optional_length-returns
optional_length-returns t c =
    let value = c.in_ok-conditional.ensures in
    record {
      trees = value.tree ∷ [];
      found_is = found_before _ _ _ value.tree _
          (some_length c.args.budget (below c.args.budget) c.args.self.now.names c.args.self.now.rest.now (sym c.at_mark.ensures ∙ c.if-at_mark.false)) value.found_is;
      read = record { names_are = value.read.names_are; pushed = alone value.tree _ _ c.in_ok-conditional.field-0 value.read.pushed };
      said = tt;
      low = value.low;
      shorter = let s = value.shorter in omega (arith, s);
    }

-- ---- parameters behind a declarator

pub takes-takes_nothing-requires-clause-some : goal.takes-takes_nothing-requires-clause-some
takes-takes_nothing-requires-clause-some t c = mark_some RightParenthesis c.args.self.now.rest.now (sym c.at_mark.ensures ∙ c.if-at_mark.true)

pub takes-returns-then-at_mark-clause-gives : goal.takes-returns-then-at_mark-clause-gives
takes-returns-then-at_mark-clause-gives t c = λ names x under declared.
    let d = c.args.budget in
    gives_more (λ d. d.part) (SaysSuffixed c.takes_nothing.new.self x) _ _ (after names) under (suc c.args.inner.part.height) d _ _ c.takes_nothing.new.self c.takes_nothing.result
    (takes_no_parameters d (below d) names x c.args.self.now.rest.now (sym c.at_mark.ensures ∙ c.if-at_mark.true))
    c.requires (omega arith) (c.takes_nothing.ensures.gives names x under declared)

pub takes-returns-then-at_word-clause-gives : goal.takes-returns-then-at_word-clause-gives
takes-returns-then-at_word-clause-gives t c = λ names x under declared.
    let d = c.args.budget in
    gives_same (λ d. d.part) (SaysSuffixed c.takes_void.new.self x) _ _ _ _ _ _ _ c.takes_void.result
    (takes_void_first d (below d) names x c.args.self.now.rest.now (sym c.at_mark.ensures ∙ c.if-at_mark.false) (sym c.at_word.ensures ∙ c.if-at_word.true))
    (c.takes_void.ensures.gives names x under declared)

pub takes-returns-clause-gives : goal.takes-returns-clause-gives
takes-returns-clause-gives t c = λ names x under declared.
    let d = c.args.budget in
    gives_same (λ d. d.part) (SaysSuffixed c.takes_parameters.new.self x) _ _ _ _ _ _ _ c.takes_parameters.result
    (takes_others d (below d) names x c.args.self.now.rest.now (sym c.at_mark.ensures ∙ c.if-at_mark.false) (sym c.at_word.ensures ∙ c.if-at_word.false))
    (c.takes_parameters.ensures.gives names x under declared)

pub takes_void-takes_nothing-requires-clause-some : goal.takes_void-takes_nothing-requires-clause-some
takes_void-takes_nothing-requires-clause-some t c = mark_some RightParenthesis c.advance.new.self.rest.now (sym c.at_mark.ensures ∙ c.if-at_mark.true)

pub takes_void-returns-then-at_mark-clause-gives : goal.takes_void-returns-then-at_mark-clause-gives
takes_void-returns-then-at_mark-clause-gives t c = λ names x under declared.
    let d = c.args.budget in
    let mid = c.advance.new.self in
    let next = c.advance.ensures.rest in
    gives_more (λ d. d.part) (SaysSuffixed c.takes_nothing.new.self x) _ _ (after names) under (suc c.args.inner.part.height) d (length mid.rest.now) (length c.args.self.now.rest.now)
    c.takes_nothing.new.self c.takes_nothing.result
    (void_alone d (below d) names x c.args.self.now.rest.now mid.rest.now next (sym c.at_mark.ensures ∙ c.if-at_mark.true))
    c.requires.fits (still_shorter _ c.args.self.now.rest.now mid.rest.now next (omega arith))
    (c.takes_nothing.ensures.gives names x under (declared_on names x under c.args.self.now mid c.args.inner c.advance.ensures.kept declared))

pub takes_void-returns-then-not-goes_on_behind_void-clause-gives : goal.takes_void-returns-then-not-goes_on_behind_void-clause-gives
takes_void-returns-then-not-goes_on_behind_void-clause-gives t c = λ names x under declared.
    void_wrong c.args.budget (below c.args.budget) names x c.args.self.now.rest.now c.advance.new.self.rest.now c.advance.ensures.rest
    (sym c.at_mark.ensures ∙ c.if-at_mark.false) (sym c.goes_on_behind_void.ensures ∙ c.if-not-goes_on_behind_void.true)

pub takes_void-returns-then-budget-lt4-clause-gives : goal.takes_void-returns-then-budget-lt4-clause-gives
takes_void-returns-then-budget-lt4-clause-gives t c = λ names x under declared.
    void_deep c.args.budget (below c.args.budget) names x c.args.self.now.rest.now c.advance.new.self.rest.now c.advance.ensures.rest
    (sym c.at_mark.ensures ∙ c.if-at_mark.false) (sym c.goes_on_behind_void.ensures ∙ c.if-not-goes_on_behind_void.false) (search rules) _ c.advance-then-budget-lt4.ensures.rest

pub takes_void-returns-clause-gives : goal.takes_void-returns-clause-gives
takes_void-returns-clause-gives t c = λ names x under declared.
    let kept = c.advance.ensures.kept in
    gives_same (λ d. d.part) (SaysSuffixed c.takes_parameters.new.self x) _ _ _ _ _ _ _ c.takes_parameters.result
    (void_goes_on c.args.budget (below c.args.budget) names x c.args.self.now.rest.now c.advance.new.self.rest.now c.advance.ensures.rest
    (sym c.at_mark.ensures ∙ c.if-at_mark.false) (sym c.goes_on_behind_void.ensures ∙ c.if-not-goes_on_behind_void.false) (search rules))
    (c.takes_parameters.ensures.gives names x under
    (declared_on names x under c.args.self.now _ c.args.inner (record { names_are = kept.names_are; trees_are = kept.trees_are; parameters_are = kept.parameters_are }) declared))

pub takes_parameters-returns-in_err-height-clause-gives : goal.takes_parameters-returns-in_err-height-clause-gives
takes_parameters-returns-in_err-height-clause-gives t c = λ names x under declared.
    let d = c.args.budget in
    let some : d ≢ 0 = λ e. absurd (let h = c.requires in omega (arith, h, e)) in
    gives_stop (λ d. d.part) (SaysSuffixed c.scoped_parameters.new.self x) _ _ _ _ _ _ _ c.in_err-height.field-0.0 c.from_residual.ensures (
    stops_before _ _ _ _ c.in_err-height.field-0.0
    (scoped_shape d c.next_lower.result names c.args.self.now.names x c.args.self.now.rest.now (c.next_lower.ensures.lower some) declared.read.names_are) c.in_err-height.ensures)

pub takes_parameters-returns-clause-gives : goal.takes_parameters-returns-clause-gives
takes_parameters-returns-clause-gives t c = λ names x under declared.
    let d = c.args.budget in
    let old = c.args.self.now in
    let inner = c.args.inner in
    let some : d ≢ 0 = λ e. absurd (let h = c.requires in omega (arith, h, e)) in
    let row = c.in_ok-height.ensures in
    let f = forest_of row.trees in
    let node = plain_node kind.Takes (start x) (x then f) in
    let left = c.if-not-inner.self in
    let now = c.scoped_parameters.new.self in
    let moved : (left.names ≡ now.names) × (left.rest ≡ now.rest) × (left.trees ≡ now.trees) × (map entry_of left.parameters.items ≡ parameter_entries (parameters_of (one node)))
    = elim c.if-not-inner.branch [
      | takes_parameters-then-not-inner w ↦ (
        ap (λ p. p.names) w.self-is,
        ap (λ p. p.rest) w.self-is,
        ap (λ p. p.trees) w.self-is,
        ap (λ p. map entry_of p.parameters.items) w.self-is ∙ ap (λ parameters. map entry_of parameters.items) c.replace-outer.ensures.value ∙ declared.said.parameters_are
            ∙ ap parameter_entries (sym (not_chosen (is_bare_name (one x)) f (parameters_of (one x)) (sym declared.said.itself_is.bare_is ∙ w.if-not-inner.true))),
      )
      | takes_parameters-else-not-inner w ↦ (
        ap (λ p. p.names) w.self-is,
        ap (λ p. p.rest) w.self-is,
        ap (λ p. p.trees) w.self-is,
        ap (λ p. map entry_of p.parameters.items) w.self-is ∙ row.said.parameters_are
            ∙ ap parameter_entries (sym (chosen (is_bare_name (one x)) f (parameters_of (one x)) (sym declared.said.itself_is.bare_is ∙ w.if-not-inner.false))),
      )
    ] in
    suffix_made _ (after names) x node under d (length old.rest.now) _ c.suffixed.result
    (c.suffixed.ensures.tree x row.trees under (stack_of old.trees) c.len-mark.ensures declared.read.pushed declared.said.itself_is
    (subst (λ trees. ArePushed row.trees (stack_of old.trees) (stack_of trees) c.in_ok-height.height) (sym moved.2) row.read.pushed))
    (found_before _ _ _ f _ (scoped_shape d c.next_lower.result names old.names x old.rest.now (c.next_lower.ensures.lower some) declared.read.names_are) row.found_is
    ∙ ap (λ rest. found node rest.now) (sym moved.1))
    (moved.0 ∙ row.read.names_are ∙ declared.read.names_are ∙ after_silent names x (start x) f row.said.silent) moved.3
    (omega arith)
    (let h = declared.read.pushed.height_is in let g = row.read.pushed.height_is in let l = row.low in let m = c.next_lower.ensures.less some in let r = c.requires in omega (arith, h, g, l, m, r))
    (let s = row.shorter in let e = ap (λ rest. length rest.now) moved.1 in omega (arith, s, e))

pub scoped_parameters-returns-in_err-height : goal.scoped_parameters-returns-in_err-height
scoped_parameters-returns-in_err-height t c =
    let d = c.args.budget in
    gives_row_stop itself_high _ _ _ _ _ _ _ _ c.in_err-height.field-0.0 c.from_residual-in_err-height.ensures (
    stops_then _ _ _ c.in_err-height.field-0.0
    (stops_same _ _ _ c.in_err-height.field-0.0 (ap (λ (n : Names). reading.rows_in d (below d) reading.parameters n c.args.self.now.rest.now) (sym c.in_ok-open.ensures.ok)) c.in_err-height.ensures))

pub scoped_parameters-returns-in_err-expect : goal.scoped_parameters-returns-in_err-expect
scoped_parameters-returns-in_err-expect t c =
    let d = c.args.budget in
    let row = c.in_ok-height.ensures in
    gives_row_stop itself_high _ _ _ _ _ _ _ _ c.in_err-expect.field-0.0 c.from_residual-in_err-expect.ensures (
    stops_same _ _ _ c.in_err-expect.field-0.0
    (found_then _ _ (forest_of row.trees) _ (ap (λ (n : Names). reading.rows_in d (below d) reading.parameters n c.args.self.now.rest.now) (sym c.in_ok-open.ensures.ok) ∙ row.found_is))
    (balked RightParenthesis _ c.expect.new.self _ c.in_err-expect.field-0.0 c.in_err-expect.ensures))

pub scoped_parameters-returns : goal.scoped_parameters-returns
scoped_parameters-returns t c =
    let d = c.args.budget in
    let names = c.args.self.now.names in
    let row = c.in_ok-height.ensures in
    let passing = c.in_ok-expect.ensures in
    let declares = row.read.names_are ∙ ap (λ (n : Names). add n (parameter_entries (forest_of row.trees))) c.in_ok-open.ensures.ok in
    record {
      trees = row.trees;
      found_is = found_then _ _ (forest_of row.trees) _ (ap (λ (n : Names). reading.rows_in d (below d) reading.parameters n c.args.self.now.rest.now) (sym c.in_ok-open.ensures.ok) ∙ row.found_is)
          ∙ passed RightParenthesis _ c.expect.new.self _ passing;
      read = record {
        names_are = passing.kept.names_are ∙ c.in_ok-self.ensures.closed ∙ ap (drop 1) declares;
        pushed = trees_on row.trees (stack_of c.args.self.now.trees) c.in_ok-height.height _ c.expect.new.self passing.kept row.read.pushed;
      };
      said = record {
        silent = row.said;
        parameters_are = ap (λ parameters. map entry_of parameters.items) passing.kept.parameters_are ∙ c.in_ok-self.ensures.names ∙ ap innermost declares;
      };
      low = row.low;
      shorter = let a = row.shorter in let b = passing.shorter in omega (arith, a, b);
    }

pub parameters-returns-in_err-height : goal.parameters-returns-in_err-height
unfolding reading.rows_in
parameters-returns-in_err-height t c =
    let d = c.args.budget in
    gives_row_stop itself_high _ _ _ _ _ _ _ _ c.in_err-height.field-0.0 c.from_residual.ensures (
    listed_first_stops d (below d) (reading.parameter_in d (below d)) after_parameter (length c.args.self.now.rest.now) c.args.self.now.names c.args.self.now.rest.now
    _ c.in_err-height.field-0.0 c.in_err-height.ensures)

pub parameters-loop-self-init : goal.parameters-loop-self-init
unfolding reading.rows_in
parameters-loop-self-init t c =
    let d = c.args.budget in
    let ts = c.args.self.now.rest.now in
    reading_parameters_first d (below d) _ c.args.self.now.names (stack_of c.args.self.now.trees) d (length ts) ts refl c.parameter.new.self c.in_ok-height.field-0 c.in_ok-height.ensures (omega arith)

pub parameters-returns-in_err-parameter : goal.parameters-returns-in_err-parameter
parameters-returns-in_err-parameter t c =
    let d = c.args.budget in
    gives_row_stop itself_high _ _ _ _ _ _ _ _ c.in_err-parameter.field-0.0 c.from_residual-in_err-parameter.ensures (
    reading_parameters_stops d (below d) _ c.args.self.now.names (stack_of c.args.self.now.trees) d (length c.args.self.now.rest.now) c.loop-self.self c.loop-self.height c.loop-self.invariant
    (sym c.loop-self-test.ensures) c.advance.new.self c.advance.ensures.kept c.advance.ensures.rest _ c.in_err-parameter.field-0.0 c.in_err-parameter.ensures)

pub parameters-loop-self-preserved : goal.parameters-loop-self-preserved
parameters-loop-self-preserved t c =
    let d = c.args.budget in
    reading_parameters_next d (below d) _ c.args.self.now.names (stack_of c.args.self.now.trees) d (length c.args.self.now.rest.now) c.loop-self.self c.loop-self.height c.loop-self.invariant
    (sym c.loop-self-test.ensures) c.advance.new.self c.advance.ensures.kept c.advance.ensures.rest c.parameter-in-loop-self.new.self c.in_ok-parameter.field-0 c.in_ok-parameter.ensures _ (search rules)

pub parameters-returns : goal.parameters-returns
parameters-returns t c =
    let d = c.args.budget in
    reading_parameters_end d (below d) _ c.args.self.now.names (stack_of c.args.self.now.trees) d (length c.args.self.now.rest.now) c.loop-self.self c.loop-self.height c.loop-self.invariant
    (sym c.loop-self-test.ensures)

pub parameter-returns-in_err-specs : goal.parameter-returns-in_err-specs
parameter-returns-in_err-specs t c =
    let d = c.args.budget in
    gives_stop itself _ _ _ _ _ _ _ _ c.in_err-specs.field-0.0 c.from_residual.ensures (
    front_stops d c.next_lower.result (c.next_lower.ensures.none, c.next_lower.ensures.lower, c.next_lower.ensures.less) _ c.args.self.now.names c.args.self.now.rest.now _
    (parameter_shape d c.args.self.now.names c.args.self.now.rest.now) _ c.in_err-specs.field-0.0 c.in_err-specs.ensures)

pub parameter-returns-in_err-declarator : goal.parameter-returns-in_err-declarator
unfolding reading.goal_in
parameter-returns-in_err-declarator t c =
    let d = c.args.budget in
    gives_stop itself _ _ _ _ _ _ _ _ c.in_err-declarator.field-0.0 c.from_residual-in_err-declarator.ensures (
    behind_stops kind.Param (reading.declared reading.either) d c.next_lower.result c.next_lower-2.result (c.next_lower.ensures.none, c.next_lower.ensures.lower, c.next_lower.ensures.less)
    (c.next_lower-2.ensures.none, c.next_lower-2.ensures.lower, c.next_lower-2.ensures.less) _ c.args.self.now.names c.args.self.now.rest.now (parameter_shape d c.args.self.now.names c.args.self.now.rest.now)
    (after_parameter c.args.self.now.names) _ _ _ c.specs.new.self c.in_ok-specs.field-0.part c.in_ok-specs.ensures _ c.in_err-declarator.field-0.0 c.in_err-declarator.ensures)

pub parameter-returns : goal.parameter-returns
unfolding reading.goal_in
parameter-returns t c =
    let d = c.args.budget in
    let names = c.args.self.now.names in
    let first = c.in_ok-specs.ensures in
    let second = c.in_ok-declarator.ensures in
    both_made kind.Param (reading.declared reading.either) d c.next_lower.result c.next_lower-2.result (c.next_lower.ensures.none, c.next_lower.ensures.lower, c.next_lower.ensures.less)
    (c.next_lower-2.ensures.none, c.next_lower-2.ensures.lower, c.next_lower-2.ensures.less) _ names c.args.self.now.rest.now (parameter_shape d names c.args.self.now.rest.now)
    (after_parameter names) _ (length c.args.self.now.rest.now) (stack_of c.args.self.now.trees) c.specs.new.self c.in_ok-specs.field-0.part first
    second.tree c.declared.new.self _ c.in_ok-declarator.declarator.part c.above_two.result second.found_is second.read.pushed second.low
    (let a = first.shorter in let b = second.shorter in omega (arith, a, b)) refl
    (c.in_ok-add.ensures.ok ∙ ap (λ (n : Names). add n (entry c.in_ok-declarator.declarator.name.now false)) (second.read.names_are ∙ ap (λ (n : Names). after n second.tree) first.read.names_are)
    ∙ parameter_names names first.tree second.tree c.in_ok-declarator.declarator.name.now c.in_ok-specs.field-0.part.start second.said.itself_is.name_is)
    c.above_two.ensures.tree (λ t. t.label.kind ≡ kind.Param) refl
