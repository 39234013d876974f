pub mod PrimaryPartLaws
