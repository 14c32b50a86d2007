pub mod StatementLaws
mod PartLaws
mod JumpLaws
mod BlockLaws
mod ReturnLaws
mod ForLaws
