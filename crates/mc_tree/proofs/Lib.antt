mod Preceding
