mod Stage
