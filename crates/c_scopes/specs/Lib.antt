pub mod ScopeLog
