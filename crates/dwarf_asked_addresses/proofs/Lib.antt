pub mod RisingLemmas
pub mod RisingLists
