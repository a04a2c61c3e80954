mod FactRows
mod OrderRows
mod PacketRows
