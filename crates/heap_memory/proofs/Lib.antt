mod Growth
