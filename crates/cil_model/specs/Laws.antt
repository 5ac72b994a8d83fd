pub mod TermsBack
