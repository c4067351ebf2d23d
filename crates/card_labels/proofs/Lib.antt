mod Check
