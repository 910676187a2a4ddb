pub mod CardOperate
