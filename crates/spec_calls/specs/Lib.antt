pub mod Late
pub mod Form
pub mod CallRules
pub mod Made
pub mod PathRules
pub mod Handling
