-- Lists of words with the jobs that they ask for.
use Rattle.std.proofs.Common.{◌≡◌, ℕ, List, [], ◌∷◌, Option, Some, None, refl}
use Rattle.std.specs.Prelude.{codes, map, option_map}
use Rattle.clap.proofs.OnLiterals.{clap_on_literals}
use Rattle.cp_driver.specs.declared.job.Stage.TheVariants.{Tokens, Tree}
use Rattle.cp_driver.specs.Jobs.{Job, compile, dump, job_of}

abbrev Words : Type 0
Words = List (List ℕ)

-- the words after the program's name, and the file that they ask to compile, or none where they are no job
abbrev rows : List (Words × Option (List ℕ))
rows =
    -- files
    ([], None) ∷
    (codes "" ∷ [], None) ∷
    (codes "-" ∷ [], Some (codes "-")) ∷
    (codes "a" ∷ [], Some (codes "a")) ∷
    (codes "a b" ∷ [], Some (codes "a b")) ∷
    (codes "a=b" ∷ [], Some (codes "a=b")) ∷
    (codes "help" ∷ [], Some (codes "help")) ∷
    (codes "a" ∷ codes "b" ∷ [], None) ∷
    (codes "a" ∷ codes "" ∷ [], None) ∷
    (codes "-" ∷ codes "-" ∷ [], None) ∷
    -- the option
    (codes "-S" ∷ [], None) ∷
    (codes "-S" ∷ codes "a" ∷ [], Some (codes "a")) ∷
    (codes "-S" ∷ codes "-" ∷ [], Some (codes "-")) ∷
    (codes "-S" ∷ codes "" ∷ [], None) ∷
    (codes "-S" ∷ codes "a" ∷ codes "b" ∷ [], None) ∷
    (codes "f" ∷ codes "-S" ∷ [], Some (codes "f")) ∷
    (codes "-S" ∷ codes "-S" ∷ [], None) ∷
    (codes "-S" ∷ codes "-S" ∷ codes "a" ∷ [], None) ∷
    (codes "-S" ∷ codes "a" ∷ codes "-S" ∷ [], None) ∷
    (codes "-SS" ∷ [], None) ∷
    (codes "-SS" ∷ codes "a" ∷ [], None) ∷
    (codes "-S=x" ∷ [], None) ∷
    (codes "-S=x" ∷ codes "a" ∷ [], None) ∷
    (codes "-Sa" ∷ codes "b" ∷ [], None) ∷
    -- options that are not there
    (codes "-s" ∷ codes "a" ∷ [], None) ∷
    (codes "-x" ∷ [], None) ∷
    (codes "-x" ∷ codes "a" ∷ [], None) ∷
    (codes "-1" ∷ codes "a" ∷ [], None) ∷
    (codes "--S" ∷ codes "a" ∷ [], None) ∷
    (codes "--file" ∷ codes "a" ∷ [], None) ∷
    (codes "--file=a" ∷ [], None) ∷
    (codes "--assembly" ∷ codes "a" ∷ [], None) ∷
    (codes "--help" ∷ [], None) ∷
    (codes "--help" ∷ codes "a" ∷ [], None) ∷
    (codes "-h" ∷ [], None) ∷
    (codes "-h" ∷ codes "a" ∷ [], None) ∷
    (codes "--version" ∷ [], None) ∷
    (codes "--version" ∷ codes "a" ∷ [], None) ∷
    (codes "-V" ∷ [], None) ∷
    (codes "-V" ∷ codes "a" ∷ [], None) ∷
    (codes "--regs" ∷ codes "7" ∷ codes "r1.c" ∷ [], None) ∷
    (codes "--run" ∷ codes "E" ∷ codes "--interpret" ∷ codes "E" ∷ codes "r1.c" ∷ [], None) ∷
    -- the end of the options
    (codes "--" ∷ [], None) ∷
    (codes "f" ∷ codes "--" ∷ [], Some (codes "f")) ∷
    (codes "--" ∷ codes "a" ∷ [], Some (codes "a")) ∷
    (codes "--" ∷ codes "-" ∷ [], Some (codes "-")) ∷
    (codes "--" ∷ codes "--" ∷ [], Some (codes "--")) ∷
    (codes "--" ∷ codes "-S" ∷ [], Some (codes "-S")) ∷
    (codes "--" ∷ codes "" ∷ [], None) ∷
    (codes "--" ∷ codes "-S" ∷ codes "b" ∷ [], None) ∷
    (codes "--" ∷ codes "a" ∷ codes "-S" ∷ [], None) ∷
    (codes "a" ∷ codes "--" ∷ codes "b" ∷ [], None) ∷
    (codes "a" ∷ codes "--" ∷ codes "-S" ∷ [], None) ∷
    (codes "-S" ∷ codes "--" ∷ codes "-S" ∷ [], Some (codes "-S")) ∷ []

words_ask : map (λ row. job_of (codes "cparser" ∷ row.0)) rows ≡ map (λ row. option_map compile row.1) rows
unfolding job_of clap_on_literals
words_ask = refl

-- the words after the program's name, and the job, where `--dump` is among them
abbrev dump_rows : List (Words × Option Job)
dump_rows =
    (codes "--dump" ∷ codes "tokens" ∷ codes "f" ∷ [], Some (dump Tokens (codes "f"))) ∷
    (codes "--dump=tokens" ∷ codes "f" ∷ [], Some (dump Tokens (codes "f"))) ∷
    (codes "f" ∷ codes "--dump" ∷ codes "tokens" ∷ [], Some (dump Tokens (codes "f"))) ∷
    (codes "f" ∷ codes "--dump=tokens" ∷ [], Some (dump Tokens (codes "f"))) ∷
    (codes "--dump" ∷ codes "tokens" ∷ codes "-" ∷ [], Some (dump Tokens (codes "-"))) ∷
    (codes "--dump" ∷ codes "tokens" ∷ codes "--" ∷ codes "-S" ∷ [], Some (dump Tokens (codes "-S"))) ∷
    (codes "--dump" ∷ codes "tokens" ∷ codes "tokens" ∷ [], Some (dump Tokens (codes "tokens"))) ∷
    (codes "--dump" ∷ codes "tree" ∷ codes "f" ∷ [], Some (dump Tree (codes "f"))) ∷
    (codes "--dump=tree" ∷ codes "f" ∷ [], Some (dump Tree (codes "f"))) ∷
    (codes "f" ∷ codes "--dump" ∷ codes "tree" ∷ [], Some (dump Tree (codes "f"))) ∷
    (codes "f" ∷ codes "--dump=tree" ∷ [], Some (dump Tree (codes "f"))) ∷
    (codes "--dump" ∷ codes "tree" ∷ codes "-" ∷ [], Some (dump Tree (codes "-"))) ∷
    (codes "--dump" ∷ codes "tree" ∷ codes "tokens" ∷ [], Some (dump Tree (codes "tokens"))) ∷
    (codes "--" ∷ codes "--dump" ∷ [], Some (compile (codes "--dump"))) ∷
    -- no FILE, and no value
    (codes "--dump" ∷ codes "tokens" ∷ [], None) ∷
    (codes "--dump=tokens" ∷ [], None) ∷
    (codes "--dump" ∷ codes "tree" ∷ [], None) ∷
    (codes "--dump" ∷ [], None) ∷
    (codes "--dump" ∷ codes "f" ∷ [], None) ∷
    (codes "--dump=" ∷ [], None) ∷
    (codes "--dump=" ∷ codes "f" ∷ [], None) ∷
    (codes "--dump" ∷ codes "" ∷ codes "f" ∷ [], None) ∷
    (codes "f" ∷ codes "--dump" ∷ [], None) ∷
    (codes "--dump" ∷ codes "-S" ∷ codes "f" ∷ [], None) ∷
    (codes "--dump" ∷ codes "--" ∷ codes "f" ∷ [], None) ∷
    -- another name or another stage
    (codes "--du" ∷ codes "tokens" ∷ codes "f" ∷ [], None) ∷
    (codes "-dump" ∷ codes "tokens" ∷ codes "f" ∷ [], None) ∷
    (codes "--du" ∷ codes "tree" ∷ codes "f" ∷ [], None) ∷
    (codes "--dump" ∷ codes "trees" ∷ codes "f" ∷ [], None) ∷
    (codes "--dump" ∷ codes "Tree" ∷ codes "f" ∷ [], None) ∷
    (codes "--dump=tre" ∷ codes "f" ∷ [], None) ∷
    (codes "--dump" ∷ codes "Tokens" ∷ codes "f" ∷ [], None) ∷
    (codes "--dump" ∷ codes "token" ∷ codes "f" ∷ [], None) ∷
    (codes "--dump" ∷ codes "tokens " ∷ codes "f" ∷ [], None) ∷
    -- two jobs, an option twice, two files
    (codes "-S" ∷ codes "--dump" ∷ codes "tokens" ∷ codes "f" ∷ [], None) ∷
    (codes "--dump" ∷ codes "tokens" ∷ codes "-S" ∷ codes "f" ∷ [], None) ∷
    (codes "-S" ∷ codes "--dump" ∷ codes "tree" ∷ codes "f" ∷ [], None) ∷
    (codes "--dump" ∷ codes "tokens" ∷ codes "--dump" ∷ codes "tokens" ∷ codes "f" ∷ [], None) ∷
    (codes "--dump" ∷ codes "tokens" ∷ codes "--dump" ∷ codes "tree" ∷ codes "f" ∷ [], None) ∷
    (codes "--dump=tokens" ∷ codes "--dump=tokens" ∷ codes "f" ∷ [], None) ∷
    (codes "--dump" ∷ codes "tokens" ∷ codes "f" ∷ codes "g" ∷ [], None) ∷ []

words_ask_for_dumps : map (λ row. job_of (codes "cparser" ∷ row.0)) dump_rows ≡ map (λ row. row.1) dump_rows
unfolding job_of clap_on_literals
words_ask_for_dumps = refl

-- the program's name is no option and no file
names_of_the_program : map (λ name. job_of (name ∷ codes "-S" ∷ codes "a" ∷ [])) (codes "" ∷ codes "-S" ∷ codes "--" ∷ codes "b" ∷ []) ≡ map (λ file. Some (compile file)) (codes "a" ∷ codes "a" ∷ codes "a" ∷ codes "a" ∷ [])
unfolding job_of clap_on_literals
names_of_the_program = refl

no_program : job_of [] ≡ None
unfolding job_of clap_on_literals
no_program = refl
