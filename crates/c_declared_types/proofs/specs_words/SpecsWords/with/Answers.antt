use Rattle.std.specs.Prelude.{filter}
use Rattle.c_grammar.specs.Vocabulary.{is_type_word}
use Rattle.c_typing.specs.Declarators.{is_storage}
use Rattle.c_declared_types.specs.Words.{base_text, length_text, sign_text, storage_text}
use Rattle.c_declared_types.proofs.WordLaws.{type_added, storage_added, nothing_added, base_word, length_word, sign_word, storage_word}
use Rattle.c_declared_types.proofs.specs_words.SpecsWords.with.Goals as goal

pub returns-in-Base : goal.returns-in-Base
returns-in-Base c = λ words h.
    type_added c.args.self c.with_base.result words c.args.text.now (base_text c.in-Base.base) c.in-Base.ensures (base_word c.in-Base.base) h (c.with_base.ensures (filter is_type_word words) h.types)

pub returns-in-Length : goal.returns-in-Length
returns-in-Length c = λ words h.
    type_added c.args.self c.with_length.result words c.args.text.now (length_text c.in-Length.length) c.in-Length.ensures (length_word c.in-Length.length) h (c.with_length.ensures (filter is_type_word words) h.types)

pub returns-in-Sign : goal.returns-in-Sign
returns-in-Sign c = λ words h.
    type_added c.args.self c.with_sign.result words c.args.text.now (sign_text c.in-Sign.sign) c.in-Sign.ensures (sign_word c.in-Sign.sign) h (c.with_sign.ensures (filter is_type_word words) h.types)

pub returns-in-Storage : goal.returns-in-Storage
returns-in-Storage c = λ words h.
    storage_added c.args.self c.with.result words c.args.text.now (storage_text c.in-Storage.word) c.in-Storage.ensures (storage_word c.in-Storage.word) h (c.with.ensures (filter is_storage words) h.storage)

pub returns-in-Other : goal.returns-in-Other
returns-in-Other c = λ words h. nothing_added c.args.self words c.args.text.now c.in-Other.ensures h
