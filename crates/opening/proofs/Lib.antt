mod Bars
mod Whole
