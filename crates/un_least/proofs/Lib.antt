pub mod LeastSteps
