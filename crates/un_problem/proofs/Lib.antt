pub mod ProblemLaws
