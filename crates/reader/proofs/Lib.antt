mod ParserPaths
