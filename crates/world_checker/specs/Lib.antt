pub mod WorldVerdicts
