pub mod HeldLists
