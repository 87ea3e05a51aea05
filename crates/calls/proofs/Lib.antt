mod EditLaws
