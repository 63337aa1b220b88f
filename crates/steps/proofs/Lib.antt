pub mod Otherwise
