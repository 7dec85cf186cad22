mod Obeying
