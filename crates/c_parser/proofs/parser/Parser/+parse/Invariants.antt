-- The cycle of the parser: each call has a lower budget, or stands for less at the same one; what its loops have read.
use Rattle.std.proofs.Common.{◌+◌, ◌*◌, suc, length, List}
use Rattle.c_syntax.specs.Tables.{stack_of}
use Rattle.c_grammar.specs.Scopes.{after, Names}
use Rattle.c_grammar.specs.Reading.{below, commas, suffixes, expression_in, postfix_in, assignment_in, arguments_in, binary_in, rows_in, declared_in, enumerator_in, named, declarators, enumerators, parameters}
use Rattle.c_parser.specs.Gives.{behind_all, IsDeclared}
use Rattle.c_parser.proofs.Chains.{IsLinked}
use Rattle.c_parser.proofs.Climbs.{IsClimbed}
use Rattle.c_parser.proofs.CommaRows.{IsListing}
use Rattle.c_syntax.specs.Trees.{Tree}
use Rattle.c_parser.specs.Steps.{members_of, specifiers_of, suffixes_at}
use Rattle.c_parser.proofs.BraceRows.{IsListingInBraces}
use Rattle.c_parser.proofs.SpecRows.{IsReadingMembers, IsReadingSpecs}
use Rattle.c_parser.proofs.Parameters.{IsReadingParameters}
use Rattle.c_parser.proofs.Suffixes.{IsReadingSuffixes}
use Rattle.c_parser.proofs.parser.Parser.+parse.Given as goal

abbrev pub decreases-arguments : goal.decreases-arguments
decreases-arguments l = l.budget * 64 + 26

abbrev pub decreases-assigned : goal.decreases-assigned
decreases-assigned l = l.budget * 64 + 1

abbrev pub decreases-assignment : goal.decreases-assignment
decreases-assignment l = l.budget * 64 + 24

abbrev pub decreases-binary : goal.decreases-binary
decreases-binary l = l.budget * 64 + 20

abbrev pub decreases-cast : goal.decreases-cast
decreases-cast l = l.budget * 64 + 18

abbrev pub decreases-cast_to : goal.decreases-cast_to
decreases-cast_to l = l.budget * 64 + 1

abbrev pub decreases-choice : goal.decreases-choice
decreases-choice l = l.budget * 64 + 1

abbrev pub decreases-comma : goal.decreases-comma
decreases-comma l = l.budget * 64 + 1

abbrev pub decreases-conditional : goal.decreases-conditional
decreases-conditional l = l.budget * 64 + 22

abbrev pub decreases-expression : goal.decreases-expression
decreases-expression l = l.budget * 64 + 25

abbrev pub decreases-operand : goal.decreases-operand
decreases-operand l = l.budget * 64 + 1

abbrev pub decreases-parenthesized : goal.decreases-parenthesized
decreases-parenthesized l = l.budget * 64 + 5

abbrev pub decreases-postfix : goal.decreases-postfix
decreases-postfix l = l.budget * 64 + 12

abbrev pub decreases-prefixed : goal.decreases-prefixed
decreases-prefixed l = l.budget * 64 + 14

abbrev pub decreases-operated : goal.decreases-operated
decreases-operated l = l.budget * 64 + 13

abbrev pub decreases-stepped : goal.decreases-stepped
decreases-stepped l = l.budget * 64 + 1

abbrev pub decreases-primary : goal.decreases-primary
decreases-primary l = l.budget * 64 + 8

abbrev pub decreases-size_of : goal.decreases-size_of
decreases-size_of l = l.budget * 64 + 1

abbrev pub decreases-suffix : goal.decreases-suffix
decreases-suffix l = l.budget * 64 + 10

abbrev pub decreases-unary : goal.decreases-unary
decreases-unary l = l.budget * 64 + 16

abbrev pub decreases-called : goal.decreases-called
decreases-called l = suc l.lower * 64 + 9

abbrev pub decreases-indexed : goal.decreases-indexed
decreases-indexed l = suc l.lower * 64 + 9

abbrev pub decreases-size_of_operand : goal.decreases-size_of_operand
decreases-size_of_operand l = suc l.lower * 64 + 0

abbrev pub decreases-expression-loop-self : goal.decreases-expression-loop-self
decreases-expression-loop-self l = length l.self.rest.now

abbrev pub decreases-postfix-loop-self : goal.decreases-postfix-loop-self
decreases-postfix-loop-self l = length l.self.rest.now

abbrev pub decreases-arguments-loop-self : goal.decreases-arguments-loop-self
decreases-arguments-loop-self l = length l.self.rest.now

abbrev pub decreases-binary-loop-mark : goal.decreases-binary-loop-mark
decreases-binary-loop-mark l = length l.self.rest.now

abbrev pub invariant-expression-loop-self : goal.invariant-expression-loop-self
invariant-expression-loop-self l =
    IsLinked (λ k. commas l.budget (below l.budget) k l.fn.self.names) l.budget (expression_in l.budget (below l.budget) l.fn.self.names l.fn.self.rest.now)
    (after l.fn.self.names) (stack_of l.fn.self.trees) (length l.fn.self.rest.now) l.self l.operands

abbrev pub invariant-arguments-loop-self : goal.invariant-arguments-loop-self
invariant-arguments-loop-self l =
    IsListing l.budget (below l.budget) (assignment_in l.budget (below l.budget)) after (arguments_in l.budget (below l.budget) l.fn.self.names l.fn.self.rest.now)
    (behind_all l.fn.self.names) (stack_of l.fn.self.trees) l.budget (suc (length l.fn.self.rest.now)) l.self l.height

abbrev pub invariant-postfix-loop-self : goal.invariant-postfix-loop-self
invariant-postfix-loop-self l =
    IsLinked (λ k. suffixes l.budget (below l.budget) k l.fn.self.names) l.budget (postfix_in l.budget (below l.budget) l.fn.self.names l.fn.self.rest.now)
    (after l.fn.self.names) (stack_of l.fn.self.trees) (length l.fn.self.rest.now) l.self l.operand

abbrev pub invariant-binary-loop-mark : goal.invariant-binary-loop-mark
invariant-binary-loop-mark l =
    IsClimbed l.budget (below l.budget) l.fn.self.names (binary_in l.budget (below l.budget) l.loosest l.fn.self.names l.fn.self.rest.now) l.tightest l.loosest
    (stack_of l.fn.self.trees) (length l.fn.self.rest.now) l.self l.operands

abbrev pub decreases-size_of_type : goal.decreases-size_of_type
decreases-size_of_type l = suc l.lower * 64 + 0

abbrev pub decreases-declarators : goal.decreases-declarators
decreases-declarators l = l.budget * 64 + 35

abbrev pub decreases-declared : goal.decreases-declared
decreases-declared l = l.budget * 64 + 34

abbrev pub decreases-declared_suffix : goal.decreases-declared_suffix
decreases-declared_suffix l = l.budget * 64 + 30

abbrev pub decreases-declared_suffixes : goal.decreases-declared_suffixes
decreases-declared_suffixes l = l.budget * 64 + 31

abbrev pub decreases-enclosed : goal.decreases-enclosed
decreases-enclosed l = l.budget * 64 + 33

abbrev pub decreases-enumerator : goal.decreases-enumerator
decreases-enumerator l = l.budget * 64 + 28

abbrev pub decreases-enumerator_value : goal.decreases-enumerator_value
decreases-enumerator_value l = l.budget * 64 + 27

abbrev pub decreases-enumerators : goal.decreases-enumerators
decreases-enumerators l = l.budget * 64 + 29

abbrev pub decreases-member : goal.decreases-member
decreases-member l = l.budget * 64 + 36

abbrev pub decreases-members : goal.decreases-members
decreases-members l = l.budget * 64 + 37

abbrev pub decreases-named : goal.decreases-named
decreases-named l = l.budget * 64 + 32

abbrev pub decreases-optional_length : goal.decreases-optional_length
decreases-optional_length l = l.budget * 64 + 26

abbrev pub decreases-parameter : goal.decreases-parameter
decreases-parameter l = l.budget * 64 + 38

abbrev pub decreases-parameters : goal.decreases-parameters
decreases-parameters l = l.budget * 64 + 39

abbrev pub decreases-pointer : goal.decreases-pointer
decreases-pointer l = l.budget * 64 + 27

abbrev pub decreases-scoped_parameters : goal.decreases-scoped_parameters
decreases-scoped_parameters l = l.budget * 64 + 40

abbrev pub decreases-specifier : goal.decreases-specifier
decreases-specifier l = l.budget * 64 + 30

abbrev pub decreases-specifier_row : goal.decreases-specifier_row
decreases-specifier_row l = l.budget * 64 + 31

abbrev pub decreases-specs : goal.decreases-specs
decreases-specs l = l.budget * 64 + 32

abbrev pub decreases-tag : goal.decreases-tag
decreases-tag l = l.budget * 64 + 28

abbrev pub decreases-tagged : goal.decreases-tagged
decreases-tagged l = l.budget * 64 + 29

abbrev pub decreases-tagged_body : goal.decreases-tagged_body
decreases-tagged_body l = l.budget * 64 + 27

abbrev pub decreases-tagged_row : goal.decreases-tagged_row
decreases-tagged_row l = l.budget * 64 + 38

abbrev pub decreases-takes : goal.decreases-takes
decreases-takes l = l.budget * 64 + 29

abbrev pub decreases-takes_parameters : goal.decreases-takes_parameters
decreases-takes_parameters l = l.budget * 64 + 27

abbrev pub decreases-takes_void : goal.decreases-takes_void
decreases-takes_void l = l.budget * 64 + 28

abbrev pub decreases-type_name : goal.decreases-type_name
decreases-type_name l = l.budget * 64 + 38

abbrev pub decreases-undeclared : goal.decreases-undeclared
decreases-undeclared l = l.budget * 64 + 32

abbrev pub decreases-array : goal.decreases-array
decreases-array l = suc l.lower * 64 + 9

abbrev pub decreases-declarators-loop-self : goal.decreases-declarators-loop-self
decreases-declarators-loop-self l = length l.self.rest.now

abbrev pub decreases-enumerators-loop-self : goal.decreases-enumerators-loop-self
decreases-enumerators-loop-self l = length l.self.rest.now

abbrev pub decreases-members-loop-self : goal.decreases-members-loop-self
decreases-members-loop-self l = length l.self.rest.now

abbrev pub decreases-specifier_row-loop-self : goal.decreases-specifier_row-loop-self
decreases-specifier_row-loop-self l = length l.self.rest.now

abbrev pub decreases-declared_suffixes-loop-self : goal.decreases-declared_suffixes-loop-self
decreases-declared_suffixes-loop-self l = length l.self.rest.now

abbrev pub decreases-parameters-loop-self : goal.decreases-parameters-loop-self
decreases-parameters-loop-self l = length l.self.rest.now

abbrev pub invariant-declarators-loop-self : goal.invariant-declarators-loop-self
invariant-declarators-loop-self l =
    IsListing l.budget (below l.budget) (declared_in l.budget (below l.budget) named) after (rows_in l.budget (below l.budget) declarators l.fn.self.names l.fn.self.rest.now)
    (behind_all l.fn.self.names) (stack_of l.fn.self.trees) l.budget (length l.fn.self.rest.now) l.self l.height

abbrev pub invariant-enumerators-loop-self : goal.invariant-enumerators-loop-self
invariant-enumerators-loop-self l =
    IsListingInBraces l.budget (below l.budget) (enumerator_in l.budget (below l.budget)) (rows_in l.budget (below l.budget) enumerators l.fn.self.names l.fn.self.rest.now)
    l.fn.self.names (stack_of l.fn.self.trees) l.budget (length l.fn.self.rest.now) l.self l.height

abbrev pub invariant-members-loop-self : goal.invariant-members-loop-self
invariant-members-loop-self l =
    IsReadingMembers l.budget (below l.budget) (members_of l.budget (below l.budget) l.fn.self.names l.fn.self.rest.now)
    l.fn.self.names (stack_of l.fn.self.trees) l.budget (length l.fn.self.rest.now) l.self l.height

abbrev pub invariant-specifier_row-loop-self : goal.invariant-specifier_row-loop-self
invariant-specifier_row-loop-self l =
    IsReadingSpecs l.budget (below l.budget) (specifiers_of l.budget (below l.budget) l.fn.self.names l.fn.self.rest.now)
    l.fn.self.names (stack_of l.fn.self.trees) l.budget (length l.fn.self.rest.now) l.self l.typed l.row

abbrev pub invariant-parameters-loop-self : goal.invariant-parameters-loop-self
invariant-parameters-loop-self l =
    IsReadingParameters l.budget (below l.budget) (rows_in l.budget (below l.budget) parameters l.fn.self.names l.fn.self.rest.now)
    l.fn.self.names (stack_of l.fn.self.trees) l.budget (length l.fn.self.rest.now) l.self l.height

abbrev pub invariant-declared_suffixes-loop-self : goal.invariant-declared_suffixes-loop-self
invariant-declared_suffixes-loop-self l = (names : Names) (x : Tree) (under : List Tree) → IsDeclared (after names) x under l.fn.self l.fn.declarator
    → IsReadingSuffixes l.budget (below l.budget) (suffixes_at l.budget (below l.budget) names x l.fn.self.rest.now) names under (suc (length l.fn.self.rest.now)) l.self l.declarator
