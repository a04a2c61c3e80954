pub mod BlockEdges
pub mod BlockEnds
pub mod BlockJobs
pub mod BlockStarts
pub mod BlockTimed
pub mod BlockValues
mod BodyLists
mod BodyPackets
mod BodyPlaces
mod BodyRules
pub mod Codes
pub mod Costs
pub mod Counts
pub mod Cycles
pub mod Deeds
mod EdgeReads
pub mod Edges
pub mod Effects
pub mod Emission
pub mod Exits
pub mod FramePlace
pub mod Holds
pub mod InOps
pub mod InTime
pub mod JobDeeds
pub mod JobValues
pub mod Jobs
pub mod LiveStands
pub mod OfFunction
pub mod OfSource
pub mod Own
pub mod Packet
pub mod Places
pub mod Right
pub mod Rules
pub mod RulesCounts
pub mod RulesEnds
pub mod RulesFrame
pub mod RulesFresh
pub mod RulesInstrs
pub mod RulesLists
pub mod RulesOps
pub mod RulesRoom
pub mod RulesWriters
pub mod Runs
pub mod Settled
pub mod Simulating
pub mod SolvedModels
pub mod Stack
pub mod Starts
pub mod Timed
pub mod Values
