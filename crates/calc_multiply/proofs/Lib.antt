pub mod ProductLaws
