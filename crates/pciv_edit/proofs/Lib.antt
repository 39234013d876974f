pub mod EditListLaws
