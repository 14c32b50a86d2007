use Rattle.c_typing.proofs.MadeUnit.{typed_made}
use Rattle.c_typing.proofs.laws.made.Goals as goal

pub returns : goal.returns
returns c bytes tokens t u lexed derived typed = typed_made bytes tokens t u lexed derived typed
