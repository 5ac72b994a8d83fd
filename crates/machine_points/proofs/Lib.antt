pub mod PointsKeep
pub mod Induction
