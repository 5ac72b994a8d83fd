pub mod GapsHold
