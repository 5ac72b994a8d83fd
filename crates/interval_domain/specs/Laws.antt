pub mod Holes
pub mod JoinsContain
pub mod SumContains
pub mod ProductContains
pub mod QuotientContains
pub mod RemainderContains
pub mod BitsContain
pub mod Ends
