pub mod PileLaws
mod Joined
