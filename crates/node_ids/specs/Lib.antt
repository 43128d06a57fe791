pub mod NodeIds
