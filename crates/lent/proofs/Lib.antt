pub mod AgreesLaws
