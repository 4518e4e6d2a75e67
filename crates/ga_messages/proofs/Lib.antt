mod NthItem
mod Plain
mod WorkedMessages
