use Rattle.c_declared_types.proofs.WordLaws.{no_type_word, no_storage}
use Rattle.c_declared_types.proofs.specs_words.word_of.Goals as goal

pub returns-in_default : goal.returns-in_default
returns-in_default c =
    let d = c.in_default in (
      no_type_word c.args.text.now d.not-void d.not-char d.not-short d.not-int d.not-long d.not-signed d.not-unsigned d.not-text,
      no_storage c.args.text.now d.not-typedef d.not-extern d.not-static d.not-auto d.not-register,
    )
