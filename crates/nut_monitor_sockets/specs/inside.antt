pub mod HandingLaws
