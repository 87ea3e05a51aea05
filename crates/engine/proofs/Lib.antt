mod ExportRules
