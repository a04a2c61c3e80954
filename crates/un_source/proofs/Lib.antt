pub mod Steps
pub mod FunctionRuns
