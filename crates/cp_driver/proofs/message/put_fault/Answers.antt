use Rattle.std.proofs.Common.{◌≡◌, OnOk, OnErr, subst, rules}
use Rattle.cp_base.specs.Outside.{gained, GainsFront}
use Rattle.cp_driver.proofs.message.put_fault.Goals as goal

pub returns-in-Syntax-clause-ok : goal.returns-in-Syntax-clause-ok
returns-in-Syntax-clause-ok g c = rw c.in-Syntax.is c.put_error-in-Syntax.ensures.ok

pub returns-in-Syntax-clause-front : goal.returns-in-Syntax-clause-front
returns-in-Syntax-clause-front g c = rw c.in-Syntax.is c.put_error-in-Syntax.ensures.front

pub returns-in-Usage-clause-ok : goal.returns-in-Usage-clause-ok
returns-in-Usage-clause-ok g c = rw c.in-Usage.is
    (subst (λ t. OnOk c.put_all.result (g.E.Sink.written c.put_all.new.sink ≡ gained (g.E.Sink.written c.args.err.now) t)) c.as_bytes.ensures.value c.put_all.ensures.ok)

pub returns-in-Usage-clause-front : goal.returns-in-Usage-clause-front
returns-in-Usage-clause-front g c = rw c.in-Usage.is
    (subst (λ t. OnErr c.put_all.result (GainsFront (g.E.Sink.written c.args.err.now) (g.E.Sink.written c.put_all.new.sink) t)) c.as_bytes.ensures.value c.put_all.ensures.err)

pub returns-in-ReadFault-clause-ok : goal.returns-in-ReadFault-clause-ok
returns-in-ReadFault-clause-ok g c = rw c.in-ReadFault.is c.put_about.ensures.ok

pub returns-in-ReadFault-clause-front : goal.returns-in-ReadFault-clause-front
returns-in-ReadFault-clause-front g c = rw c.in-ReadFault.is c.put_about.ensures.front

pub returns-in-WriteFault-clause-ok : goal.returns-in-WriteFault-clause-ok
returns-in-WriteFault-clause-ok g c = rw c.in-WriteFault.is (search rules)

pub returns-in-WriteFault-clause-front : goal.returns-in-WriteFault-clause-front
returns-in-WriteFault-clause-front g c = rw c.in-WriteFault.is (search rules)

pub returns-in-TooLong-clause-ok : goal.returns-in-TooLong-clause-ok
returns-in-TooLong-clause-ok g c = rw c.in-TooLong.is c.put_about-in-TooLong.ensures.ok

pub returns-in-TooLong-clause-front : goal.returns-in-TooLong-clause-front
returns-in-TooLong-clause-front g c = rw c.in-TooLong.is c.put_about-in-TooLong.ensures.front

pub returns-in-OutOfMemory-clause-ok : goal.returns-in-OutOfMemory-clause-ok
returns-in-OutOfMemory-clause-ok g c = rw c.in-OutOfMemory.is (search rules)

pub returns-in-OutOfMemory-clause-front : goal.returns-in-OutOfMemory-clause-front
returns-in-OutOfMemory-clause-front g c = rw c.in-OutOfMemory.is (search rules)
