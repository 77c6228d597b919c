pub mod BindNodes
pub mod BoundNodes
pub mod BoundSame
pub mod BoundSound
pub mod ChainLemmas
mod Conversions
mod DatesOfDays
pub mod KindNodes
mod HoldingVectors
mod Lawful
pub mod NominalLemmas
pub mod NominalNodes
mod Openings
pub mod OperatorLemmas
mod OperatorSound
pub mod PlaceNodes
pub mod RootSound
mod TypedValues
pub mod UnplacedNodes
pub mod ValueNodes
pub mod WrittenNodes
mod Widening
mod Vectors
