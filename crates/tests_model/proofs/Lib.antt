mod ModelRows
mod RunRows
mod ScheduleRows
mod SimulationRows
mod StrengthRows
pub mod StoreLaws
