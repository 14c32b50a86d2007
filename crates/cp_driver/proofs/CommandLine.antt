-- The job of words, by what clap answers.
use Rattle.std.proofs.Common.{◌≡◌, ℕ, List, [], ◌∷◌, map, true, Option, None, refl, sym, ap, ◌∙◌}
use Rattle.std.proofs.lemmas.List.{map-id}
use Rattle.clap.specs.Words.{App, Kinds, IsAmong, fault_of, found_of, is_simple, is_simple_and_free, matches_of, rows_of}
use Rattle.clap.specs.declared.error.kind.ErrorKind.{ErrorKind}
use Rattle.clap.specs.declared.parser.matches.ArgMatches.{ArgMatches}
use Rattle.clap.proofs.OnLiterals.{clap_on_literals}
use Rattle.cp_driver.specs.Jobs.{Job, command, job_of, job_of_options, options_of, without_fault}

pub command_is_simple : is_simple command ≡ true
unfolding clap_on_literals
command_is_simple = refl

pub command_is_free : is_simple_and_free command ≡ true
unfolding clap_on_literals
command_is_free = refl

asked : App → List (List ℕ) → Option Job
asked app words = job_of_options (options_of (matches_of app words))

-- where clap takes the words, their job is that of the options that it found
pub job_taken : (app : App) (words : List (List ℕ)) (matches : ArgMatches) → app ≡ command → fault_of app (map (λ word. word) words) ≡ [] → rows_of (found_of matches) ≡ matches_of app (map (λ word. word) words) → job_of_options (options_of (rows_of (found_of matches))) ≡ job_of words
unfolding job_of asked
job_taken app words matches same no_fault rows =
    let plain = map-id words in
    ap (λ r. job_of_options (options_of r)) rows
    ∙ sym (ap (λ kinds. without_fault kinds (asked app (map (λ word. word) words))) no_fault)
    ∙ ap (λ ws. without_fault (fault_of app ws) (asked app ws)) plain
    ∙ ap (λ a. without_fault (fault_of a words) (asked a words)) same

-- where it has a fault, they are no job
pub job_refused : (app : App) (words : List (List ℕ)) (kind : ErrorKind) → app ≡ command → IsAmong kind (fault_of app (map (λ word. word) words)) → job_of words ≡ None
unfolding job_of asked
job_refused app words kind same among =
    ap (λ a. without_fault (fault_of a words) (asked a words)) (sym same)
    ∙ ap (λ ws. without_fault (fault_of app ws) (asked app ws)) (sym (map-id words))
    ∙ some (fault_of app (map (λ word. word) words)) (asked app (map (λ word. word) words)) among
  where
    some : (kinds : Kinds) (job : Option Job) → IsAmong kind kinds → without_fault kinds job ≡ None
    some [] job h = absurd h
    some (k ∷ kinds) job h = refl
