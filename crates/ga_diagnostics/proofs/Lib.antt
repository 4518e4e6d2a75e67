mod FaultMessages
mod ExpansionFaults
mod WorkedPlaces
mod WrittenPlaces
