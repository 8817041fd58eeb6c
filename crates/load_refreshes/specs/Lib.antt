pub mod RefreshedLoads
