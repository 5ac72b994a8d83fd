pub mod Loop
pub mod Standing
pub mod NumberLaws
pub mod TypeLaws
pub mod SignatureLaws
pub mod PlaceLemmas
