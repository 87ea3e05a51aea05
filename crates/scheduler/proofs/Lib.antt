mod Choosing
