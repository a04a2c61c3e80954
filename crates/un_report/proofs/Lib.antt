pub mod ReportPins
