mod Remaking
mod InspectedStates
mod CountedHistories
mod ComparedRuns
mod RaceStatuses
mod Worked
