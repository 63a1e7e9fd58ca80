pub mod HandleLaws
