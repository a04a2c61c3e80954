mod OtherTables
mod PostRows
mod WorkedModel
