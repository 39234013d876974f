pub mod PickedLaws
pub mod RaisedLaws
