mod FirstDifferences
mod StepLogs
mod CellReadings
mod NotedSteps
mod LogRows
mod SiteValues
mod Sides
