mod AsksStill
