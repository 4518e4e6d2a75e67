mod WorkedTopics
